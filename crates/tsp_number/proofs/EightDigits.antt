-- Eight digits read at once, as lanes of a 64-bit word (`front_of_eight` in src/number_word.rt): each multiplication
-- and mask, and the number that comes of them.
use Rattle.tsp_number.proofs.Prelude.{◌≡◌, ℕ, ◌+◌, ◌-◌, ◌%◌, ◌^◌, ◌<◌, leb, Bool, not, cond, List, [], ◌∷◌, map, length, replicate, Fits, w8, refl, arith, ap, sym, ◌∙◌, zero, suc, ◌*◌, ◌/◌, ◌≤◌, true, false, ◌++◌, take, drop, get_or, subst, bit_and, w64, length-append, take-append-drop, pow-add, pow-suc, pow-zero, add-mul-mod_self_left, mod-eq_of_lt, mul-lt-mul_of_pos_right, mul-le-mul_left, one-le-pow, agree_below_at, nat_tests, length-map, drop_all, length-replicate, length-take-le, replicate-append-replicate, le_bytes_8, from_le_bytes-to_le_bytes_8, mul-mod_first, and_block, and_mask, div-mul-add, digit_value_digit, is_ascii_digit, digit_value, from_le_bytes, to_le_bytes, prefix_len, AllDigits, digits_value}
use Rattle.std.proofs.lemmas.Int.Digits.{digits_value_is}
use Rattle.std.proofs.lemmas.Simd.{zip2_splat, zip2_splat_left, map-map, mask_l-mod, leading_from_mask_l, trailing_mask_l}
use Rattle.std.proofs.lemmas.Str.Parse.{digit_from_value}
use Rattle.std.specs.Int.Digits.{AllBelowBase, number_from_digits}
use lib.Count.{count_trailing_zeros}
use lib.Lanes.{Each1, zip2, mask_l, top, number_l}

abbrev at_most : ℕ → ℕ → ℕ
at_most a b = cond (leb a b) 255 0

abbrev less : ℕ → ℕ → ℕ
less a b = (a + (256 - b)) % 256

-- whether a byte less that of `0` is more than 9
abbrev is_other : ℕ → Bool
is_other x = top 7 (at_most 10 (less x 48))

-- the lanes of the bytes that are no digits
abbrev pub others : List ℕ → List ℕ
others v = zip2 at_most (replicate 8 10) (zip2 less v (replicate 8 48))

others_are : (v : List ℕ) → length v ≡ 8 → map (top 7) (others v) ≡ map is_other v
others_are v long =
    let digits = zip2_splat less v 8 48 long in
    let wide : length (map (λ x. less x 48) v) ≡ 8 = length-map v (λ x. less x 48) ∙ long in
    ap (λ l. map (top 7) (zip2 at_most (replicate 8 10) l)) digits ∙ ap (map (top 7)) (zip2_splat_left at_most 10 8 (map (λ x. less x 48) v) wide)
    ∙ map-map (top 7) (at_most 10) (map (λ x. less x 48) v) ∙ map-map (λ x. top 7 (at_most 10 x)) (λ x. less x 48) v

others_mask : (v : List ℕ) → length v ≡ 8 → mask_l (map (top 7) (others v)) % 2 ^ 64 ≡ mask_l (map is_other v)
others_mask v long =
    ap (λ l. mask_l l % 2 ^ 64) (others_are v long) ∙ mask_l-mod (map is_other v) 64 (omega (arith, length-map v is_other))

-- a byte is no digit exactly if its lane says so
digit_or_other : (x : ℕ) → x < 256 → not (is_other x) ≡ is_ascii_digit x
digit_or_other x small = agree_below_at (λ y. not (is_other y)) is_ascii_digit 256 x refl small

same_length : (v : List ℕ) → Each1 (Fits w8) v → prefix_len (λ x. not (is_other x)) v ≡ prefix_len is_ascii_digit v
same_length [] small = refl
same_length (x ∷ v) small = λ i. cond (digit_or_other x small.0.fits i) (1 + same_length v small.1 i) 0

module _ (v : List ℕ) (long : length v ≡ 8) (small : Each1 (Fits w8) v) where
  pub all_digits : mask_l (map (top 7) (others v)) % 2 ^ 64 ≡ 0 → 8 ≡ prefix_len is_ascii_digit v
  all_digits none = sym long ∙ sym (leading_from_mask_l is_other v (sym (others_mask v long) ∙ none)) ∙ same_length v small

  pub some_digits : 0 < mask_l (map (top 7) (others v)) % 2 ^ 64 → count_trailing_zeros 64 (mask_l (map (top 7) (others v)) % 2 ^ 64) ≡ prefix_len is_ascii_digit v
  some_digits some =
      let mask = others_mask v long in
      ap (count_trailing_zeros 64) mask ∙ trailing_mask_l is_other 64 v (omega arith) (omega (arith, mask)) ∙ same_length v small

-- ---- eight digits in the bytes of one number, the first one lowest

-- ---- every second part of a number

low_byte : (a m r : ℕ) → r < 65536 → bit_and (a * 65536 + r) (m * 65536 + 255) ≡ bit_and a m * 65536 + r % 256
low_byte a m r small = and_block 16 a m r 255 small (omega arith) ∙ ap (λ n. bit_and a m * 65536 + n) (and_mask r 8)

even_bytes : (w x y z : ℕ) → w < 65536 → x < 65536 → y < 65536 → z < 65536
    → bit_and (w + x * 65536 + y * 4294967296 + z * 281474976710656) 71777214294589695
    ≡ w % 256 + x % 256 * 65536 + y % 256 * 4294967296 + z % 256 * 281474976710656
even_bytes w x y z lw lx ly lz =
    let parts : w + x * 65536 + y * 4294967296 + z * 281474976710656 ≡ ((z * 65536 + y) * 65536 + x) * 65536 + w = omega arith in
    ap (λ n. bit_and n 71777214294589695) parts
    ∙ low_byte ((z * 65536 + y) * 65536 + x) 1095233372415 w lw
    ∙ ap (λ n. n * 65536 + w % 256) (low_byte (z * 65536 + y) 16711935 x lx
    ∙ ap (λ n. n * 65536 + x % 256) (low_byte z 255 y ly
    ∙ ap (λ n. n * 65536 + y % 256) (and_mask z 8)))
    ∙ omega arith

even_pairs : (s t : ℕ) → s < 4294967296 → bit_and (s + t * 4294967296) 281470681808895 ≡ s % 65536 + t % 65536 * 4294967296
even_pairs s t small =
    let parts : s + t * 4294967296 ≡ t * 4294967296 + s = omega arith in
    ap (λ n. bit_and n 281470681808895) parts
    ∙ and_block 32 t 65535 s 65535 small (omega arith)
    ∙ ap (λ n. n * 4294967296 + bit_and s 65535) (and_mask t 16)
    ∙ ap (λ n. t % 65536 * 4294967296 + n) (and_mask s 16)
    ∙ omega arith

-- ---- pairs, fours, eight

-- a product without its lowest part, of which the part past the highest is lost
without_lowest : (p q low high over : ℕ) → low < p → high * p + low < q → (high * p + low + q * over) % q / p ≡ high
without_lowest p q low high over small fits =
    ap (λ (n : ℕ). n / p) (add-mul-mod_self_left (high * p + low) q over ∙ mod-eq_of_lt fits) ∙ div-mul-add high p low small

-- the digits in a number's bytes, and the number
module _ (a b c d e f g h n : ℕ) (la : a < 10) (lb : b < 10) (lc : c < 10) (ld : d < 10) (le : e < 10) (lf : f < 10) (lg : g < 10) (lh : h < 10)
    (is : n ≡ a + b * 256 + c * 65536 + d * 16777216 + e * 4294967296 + f * 1099511627776 + g * 281474976710656 + h * 72057594037927936) where
  pairs_in : bit_and (n * 2561 % 2 ^ 64 / 256) 71777214294589695 ≡ (10 * a + b) + (10 * c + d) * 65536 + (10 * e + f) * 4294967296 + (10 * g + h) * 281474976710656
  pairs_in =
      let w : ℕ = (10 * a + b) + (10 * b + c) * 256 in
      let x : ℕ = (10 * c + d) + (10 * d + e) * 256 in
      let y : ℕ = (10 * e + f) + (10 * f + g) * 256 in
      let z : ℕ = 10 * g + h in
      let high : ℕ = w + x * 65536 + y * 4294967296 + z * 281474976710656 in
      let product : n * 2561 ≡ high * 256 + a + 2 ^ 64 * (10 * h) = omega (arith, is) in
      ap (λ k. bit_and (k % 2 ^ 64 / 256) 71777214294589695) product
      ∙ ap (λ k. bit_and k 71777214294589695) (without_lowest 256 (2 ^ 64) a high (10 * h) (omega arith) (omega arith))
      ∙ even_bytes w x y z (omega arith) (omega arith) (omega arith) (omega arith)
      ∙ omega arith

fours_in : (w x y z n : ℕ) → w < 100 → x < 100 → y < 100 → z < 100 → n ≡ w + x * 65536 + y * 4294967296 + z * 281474976710656
    → bit_and (n * 6553601 % 2 ^ 64 / 65536) 281470681808895 ≡ (100 * w + x) + (100 * y + z) * 4294967296
fours_in w x y z n lw lx ly lz is =
    let s : ℕ = (100 * w + x) + (100 * x + y) * 65536 in
    let t : ℕ = 100 * y + z in
    let product : n * 6553601 ≡ (s + t * 4294967296) * 65536 + w + 2 ^ 64 * (100 * z) = omega (arith, is) in
    ap (λ k. bit_and (k % 2 ^ 64 / 65536) 281470681808895) product
    ∙ ap (λ k. bit_and k 281470681808895) (without_lowest 65536 (2 ^ 64) w (s + t * 4294967296) (100 * z) (omega arith) (omega arith))
    ∙ even_pairs s t (omega arith)
    ∙ omega arith

eight_in : (s t n : ℕ) → s < 10000 → t < 10000 → n ≡ s + t * 4294967296 → n * 42949672960001 % 2 ^ 64 / 4294967296 ≡ 10000 * s + t
eight_in s t n ls lt is =
    let high : ℕ = 10000 * s + t in
    let product : n * 42949672960001 ≡ high * 4294967296 + s + 2 ^ 64 * (10000 * t) = omega (arith, is) in
    ap (λ (k : ℕ). k % 2 ^ 64 / 4294967296) product
    ∙ without_lowest 4294967296 (2 ^ 64) s high (10000 * t) (omega arith) (omega arith)

abbrev pub pairs_of : ℕ → ℕ
pairs_of n = bit_and (n * 2561 % 2 ^ 64 / 256) 71777214294589695

abbrev pub fours_of : ℕ → ℕ
fours_of n = bit_and (pairs_of n * 6553601 % 2 ^ 64 / 65536) 281470681808895

abbrev pub eight_of : ℕ → ℕ
eight_of n = fours_of n * 42949672960001 % 2 ^ 64 / 4294967296

digits_read : (a b c d e f g h n : ℕ) → a < 10 → b < 10 → c < 10 → d < 10 → e < 10 → f < 10 → g < 10 → h < 10
    → n ≡ a + b * 256 + c * 65536 + d * 16777216 + e * 4294967296 + f * 1099511627776 + g * 281474976710656 + h * 72057594037927936
    → eight_of n ≡ (((((((0 + a) * 10 + b) * 10 + c) * 10 + d) * 10 + e) * 10 + f) * 10 + g) * 10 + h
digits_read a b c d e f g h n la lb lc ld le lf lg lh is =
    let pairs = pairs_in a b c d e f g h n la lb lc ld le lf lg lh is in
    let fours = fours_in (10 * a + b) (10 * c + d) (10 * e + f) (10 * g + h) (pairs_of n) (omega arith) (omega arith) (omega arith) (omega arith) pairs in
    eight_in (100 * (10 * a + b) + (10 * c + d)) (100 * (10 * e + f) + (10 * g + h)) (fours_of n) (omega arith) (omega arith) fours
    ∙ omega arith

module _ (n : ℕ) (small : n < 2 ^ 64) (all : AllBelowBase 10 (to_le_bytes w64 n)) where
  pub eight_read : eight_of n ≡ number_from_digits 10 (to_le_bytes w64 n)
  eight_read =
      digits_read _ _ _ _ _ _ _ _ n all.0 all.1.0 all.1.1.0 all.1.1.1.0 all.1.1.1.1.0 all.1.1.1.1.1.0 all.1.1.1.1.1.1.0 all.1.1.1.1.1.1.1.0
      (sym (from_le_bytes-to_le_bytes_8 n small))

-- ---- bytes as a number

number_l-append : (p : ℕ) (xs ys : List ℕ) → number_l p (xs ++ ys) ≡ number_l p xs + p ^ length xs * number_l p ys
number_l-append p [] ys = rw pow-zero (omega arith)
number_l-append p (x ∷ xs) ys = rw (number_l-append p xs ys, pow-suc p (length xs)) (omega arith)

number_l-lt : (xs : List ℕ) → AllBelowBase 256 xs → number_l 256 xs < 256 ^ length xs
number_l-lt [] small = omega arith
number_l-lt (x ∷ xs) small = rw (pow-suc 256 (length xs)) (omega (arith, small.0, number_l-lt xs small.1))

number_l-zeros : (n : ℕ) (xs : List ℕ) → number_l 256 (replicate n 0 ++ xs) ≡ 256 ^ n * number_l 256 xs
number_l-zeros zero xs = omega arith
number_l-zeros (suc n) xs = rw (pow-suc 256 n) (omega (arith, number_l-zeros n xs))

-- the byte of a digit is 48 more than what it is worth
digits_above : (cs : List ℕ) → AllDigits 10 cs
    → number_l 256 cs ≡ number_l 256 (map digit_value cs) + number_l 256 (replicate (length cs) 48)
digits_above [] all = refl
digits_above (c ∷ cs) all = omega (arith, digit_value_digit c (digit_from_value c all.0), digits_above cs all.1)

below_256 : (cs : List ℕ) → AllDigits 10 cs → AllBelowBase 256 (map digit_value cs)
below_256 [] all = tt
below_256 (c ∷ cs) all = (omega (arith, all.0), below_256 cs all.1)

below_10 : (n : ℕ) (cs : List ℕ) → AllDigits 10 cs → AllBelowBase 10 (replicate n 0 ++ map digit_value cs)
below_10 zero [] all = tt
below_10 zero (c ∷ cs) all = (all.0, below_10 zero cs all.1)
below_10 (suc n) cs all = (omega arith, below_10 n cs all)

zeros_lead : (n : ℕ) (ds : List ℕ) → number_from_digits 10 (replicate n 0 ++ ds) ≡ number_from_digits 10 ds
zeros_lead zero ds = refl
zeros_lead (suc n) ds = zeros_lead n ds

-- ---- what is left after a shift

shifted : (p q low high : ℕ) → low < p → 0 < q → (low + p * high) % (p * q) * q % (p * q) ≡ low * q
shifted p q low high small some =
    let less : low * q < p * q = mul-lt-mul_of_pos_right small some in
    let product : (low + p * high) * q ≡ low * q + p * q * high = omega arith in
    mul-mod_first (low + p * high) q (p * q) ∙ ap (λ n. n % (p * q)) product ∙ add-mul-mod_self_left (low * q) (p * q) high ∙ mod-eq_of_lt less

-- ---- the first digits of eight bytes, shifted to their end

-- zeros and the digits that these bytes begin with
abbrev pub padded : ℕ → List ℕ → List ℕ
padded count bytes = replicate (8 - count) 0 ++ map digit_value (take count bytes)

-- a text of digits and what follows, less as many zeros
less_zeros : (low offset other high p q text eight_zeros : ℕ) → offset < p → other < q → text ≡ low + offset + p * high
    → eight_zeros ≡ offset + p * other
    → text + (p * q - eight_zeros) ≡ low + p * (high + (q - other))
less_zeros low offset other high p q text eight_zeros small below text_is zeros_are =
    let some : 1 ≤ q - other = omega arith in
    let room : p * 1 ≤ p * (q - other) = mul-le-mul_left p some in
    let parts : q ≡ other + (q - other) = omega arith in
    let product : p * q ≡ p * other + p * (q - other) = ap (λ n. p * n) parts ∙ omega arith in
    omega (arith, room, product)

offset_small : (n : ℕ) → number_l 256 (replicate n 48) < 256 ^ n
offset_small zero = omega arith
offset_small (suc n) = rw (pow-suc 256 n) (omega (arith, offset_small n))

zeros_split : (count : ℕ) → count ≤ 8
    → 3472328296227680304 ≡ number_l 256 (replicate count 48) + 256 ^ count * number_l 256 (replicate (8 - count) 48)
zeros_split count few =
    let sum : 8 ≡ count + (8 - count) = omega arith in
    let parts : replicate 8 48 ≡ replicate count 48 ++ replicate (8 - count) 48 =
    ap (λ n. replicate {A = ℕ} n 48) sum ∙ sym (replicate-append-replicate count (8 - count) 48) in
    ap (number_l 256) parts ∙ number_l-append 256 (replicate count 48) (replicate (8 - count) 48)
    ∙ rw (length-replicate {A = ℕ} count 48) refl

text_split : (bytes : List ℕ) (count : ℕ) → count ≤ length bytes → AllDigits 10 (take count bytes)
    → number_l 256 bytes ≡ number_l 256 (map digit_value (take count bytes)) + number_l 256 (replicate count 48) + 256 ^ count * number_l 256 (drop count bytes)
text_split bytes count few all =
    let counted : length (take count bytes) ≡ count = length-take-le count bytes few in
    let above = rw counted at (digits_above (take count bytes) all) in
    ap (number_l 256) (sym (take-append-drop count bytes)) ∙ number_l-append 256 (take count bytes) (drop count bytes) ∙ rw (counted, above) refl

digits_small : (bytes : List ℕ) (count : ℕ) → count ≤ length bytes → AllDigits 10 (take count bytes)
    → number_l 256 (map digit_value (take count bytes)) < 256 ^ count
digits_small bytes count few all =
    let counted : length (take count bytes) ≡ count = length-take-le count bytes few in
    rw (length-map, counted) at (number_l-lt (map digit_value (take count bytes)) (below_256 (take count bytes) all))

-- the bytes less as many zeros, moved up until the digits at their front end where the bytes end
moved_up : (bytes : List ℕ) (count : ℕ) → length bytes ≡ 8 → count ≤ 8 → AllDigits 10 (take count bytes)
    → (number_l 256 bytes + 14974415777481871312) % 2 ^ 64 * 256 ^ (8 - count) % 2 ^ 64 ≡ number_l 256 (padded count bytes)
moved_up bytes count long few all =
    let within : count ≤ length bytes = omega arith in
    let sum : count + (8 - count) ≡ 8 = omega arith in
    let whole : 256 ^ count * 256 ^ (8 - count) ≡ 2 ^ 64 = sym (pow-add 256 count (8 - count)) ∙ ap (λ n. 256 ^ n) sum in
    let low : ℕ = number_l 256 (map digit_value (take count bytes)) in
    let high : ℕ = number_l 256 (drop count bytes) + (256 ^ (8 - count) - number_l 256 (replicate (8 - count) 48)) in
    let less : number_l 256 bytes + 14974415777481871312 ≡ low + 256 ^ count * high =
    rw whole at (less_zeros _ _ _ _ (256 ^ count) (256 ^ (8 - count)) (number_l 256 bytes) 3472328296227680304 (offset_small count) (offset_small (8 - count))
    (text_split bytes count within all) (zeros_split count few)) in
    let up : (low + 256 ^ count * high) % 2 ^ 64 * 256 ^ (8 - count) % 2 ^ 64 ≡ low * 256 ^ (8 - count) =
    rw whole at (shifted (256 ^ count) (256 ^ (8 - count)) low high (digits_small bytes count within all) (one-le-pow (8 - count) 256 (omega arith))) in
    ap (λ n. n % 2 ^ 64 * 256 ^ (8 - count) % 2 ^ 64) less ∙ up ∙ omega (arith, number_l-zeros (8 - count) (map digit_value (take count bytes)))

-- ---- the same of the bytes as `from_le_bytes` reads them

number_l-drop : (i : ℕ) (bytes : List ℕ)
    → number_l 256 (drop i bytes) ≡ get_or bytes i 0 + 256 * number_l 256 (drop (suc i) bytes)
number_l-drop zero [] = refl
number_l-drop zero (b ∷ bytes) = refl
number_l-drop (suc i) [] = refl
number_l-drop (suc i) (b ∷ bytes) = number_l-drop i bytes

text_number : (bytes : List ℕ) → length bytes ≡ 8 → from_le_bytes w64 bytes ≡ number_l 256 bytes
text_number bytes long =
    let few : length bytes ≤ 8 = omega arith in
    let end : number_l 256 (drop 8 bytes) ≡ 0 = ap (number_l 256) (drop_all 8 bytes few) in
    omega (
      arith,
      number_l-drop 0 bytes,
      number_l-drop 1 bytes,
      number_l-drop 2 bytes,
      number_l-drop 3 bytes,
      number_l-drop 4 bytes,
      number_l-drop 5 bytes,
      number_l-drop 6 bytes,
      number_l-drop 7 bytes,
      end,
    )

bits_of_bytes : (n : ℕ) → 2 ^ (8 * n) ≡ 256 ^ n
bits_of_bytes zero = refl
bits_of_bytes (suc n) =
    let more : 8 * suc n ≡ 8 * n + 8 = omega arith in
    ap (λ k. 2 ^ k) more ∙ pow-add 2 (8 * n) 8 ∙ ap (λ k. k * 256) (bits_of_bytes n) ∙ sym (pow-suc 256 n)

below_at : (ds : List ℕ) (i : ℕ) → AllBelowBase 10 ds → get_or ds i 0 < 256
below_at [] i all = omega arith
below_at (d ∷ ds) zero all = omega (arith, all.0)
below_at (d ∷ ds) (suc i) all = below_at ds i all.1

module _ (bytes : List ℕ) (count text : ℕ) (long : length bytes ≡ 8) (few : count ≤ 8) (all : AllDigits 10 (take count bytes)) (is : text ≡ from_le_bytes w64 bytes) where
  padded-length : length (padded count bytes) ≡ 8
  padded-length =
      let within : count ≤ length bytes = omega arith in
      omega (
        arith,
        length-append (replicate (8 - count) 0) (map digit_value (take count bytes)),
        length-replicate {A = ℕ} (8 - count) 0,
        length-map (take count bytes) digit_value,
        length-take-le count bytes within,
      )

  pub shifted_bytes : to_le_bytes w64 ((text + 14974415777481871312) % 2 ^ 64 * 2 ^ (64 - 8 * count) % 2 ^ 64) ≡ padded count bytes
  shifted_bytes =
      let bits : 64 - 8 * count ≡ 8 * (8 - count) = omega arith in
      let power : 2 ^ (64 - 8 * count) ≡ 256 ^ (8 - count) = ap (λ k. 2 ^ k) bits ∙ bits_of_bytes (8 - count) in
      let number : text ≡ number_l 256 bytes = is ∙ text_number bytes long in
      le_bytes_8 (padded count bytes) _ padded-length (λ i. below_at (padded count bytes) i (below_10 (8 - count) (take count bytes) all))
      (rw (power, number) (moved_up bytes count long few all ∙ sym (text_number (padded count bytes) padded-length)))

  pub shifted_small : AllBelowBase 10 (to_le_bytes w64 ((text + 14974415777481871312) % 2 ^ 64 * 2 ^ (64 - 8 * count) % 2 ^ 64))
  shifted_small = subst (AllBelowBase 10) (sym shifted_bytes) (below_10 (8 - count) (take count bytes) all)

  pub shifted_value : number_from_digits 10 (to_le_bytes w64 ((text + 14974415777481871312) % 2 ^ 64 * 2 ^ (64 - 8 * count) % 2 ^ 64)) ≡ digits_value 10 (take count bytes)
  shifted_value =
      ap (number_from_digits 10) shifted_bytes ∙ zeros_lead (8 - count) (map digit_value (take count bytes)) ∙ sym (digits_value_is 10 (take count bytes))

-- ---- the digits at the front

passing : (b : Bool) (n x : ℕ) (xs : List ℕ) → is_ascii_digit x ≡ b → AllDigits 10 (take n xs)
    → AllDigits 10 (take (cond b (1 + n) 0) (x ∷ xs))
passing false n x xs is all = tt
passing true n x xs is all =
    let low : 48 ≤ x = grind (arith, nat_tests) in
    let high : x ≤ 57 = grind (arith, nat_tests) in
    let worth = digit_value_digit x (low, high) in
    let more : 1 + n ≡ suc n = omega arith in
    rw more (omega (arith, worth), all)

pub front_is_digits : (xs : List ℕ) → AllDigits 10 (take (prefix_len is_ascii_digit xs) xs)
front_is_digits [] = tt
front_is_digits (x ∷ xs) = passing (is_ascii_digit x) (prefix_len is_ascii_digit xs) x xs refl (front_is_digits xs)
