-- The lines of an explanation, indented by two blanks, and how it shows the bytes of a file. For the contracts of
-- src/text.rt, so that control bytes of a file don't reach a terminal as they are. What the sentences say has no
-- contract, and no verdict rests on either.
use Rattle.std.specs.List.{concat}
use Rattle.std.specs.Prelude.{ℕ, List, [], ◌∷◌, ◌++◌, ◌==◌, cond, map, codes, ◌+◌, ◌-◌, nat_lt}

-- a byte of the sentences: after byte 10 a new line begins, with two blanks
abbrev pub indented_byte : ℕ → List ℕ
indented_byte byte = cond (byte == 10) (10 ∷ codes "  ") (byte ∷ [])

-- the sentences as lines, and the end of the last one
abbrev pub indented : List ℕ → List ℕ
indented sentences = codes "  " ++ concat (map indented_byte sentences) ++ 10 ∷ []

-- ---- how an explanation shows bytes of a file: as the command `cat -v` does

-- a byte below 128: a caret and the byte with bit 64 turned, if it is 127 or below 32, but not the tab; otherwise
-- itself
abbrev pub shown_low : ℕ → List ℕ
shown_low byte = cond (byte == 9) (byte ∷ [])
    (cond (nat_lt byte 32) (94 ∷ (byte + 64) ∷ []) (cond (byte == 127) (codes "^?") (byte ∷ [])))

-- a byte from 128 on, by its lower seven bits: "M-" and what they show, but "^I" for a tab
abbrev pub shown_high : ℕ → List ℕ
shown_high low = codes "M-" ++ cond (low == 9) (codes "^I") (shown_low low)

-- any byte
abbrev pub shown_byte : ℕ → List ℕ
shown_byte byte = cond (nat_lt byte 128) (shown_low byte) (shown_high (byte - 128))

-- A byte of a file's name: only those below 32 and 127 are shown so. Others are as they are, because names are UTF-8.
abbrev pub named_byte : ℕ → List ℕ
named_byte byte = cond (nat_lt byte 128) (shown_low byte) (byte ∷ [])

-- a file's name
abbrev pub name_shown : List ℕ → List ℕ
name_shown name = concat (map named_byte name)

-- bytes of a file, one after the other
abbrev pub all_shown : List ℕ → List ℕ
all_shown bytes = concat (map shown_byte bytes)
