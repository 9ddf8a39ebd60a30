-- The floors that src/kept_states.rt keeps: no entry of a list weighs less than the list's floor, also after one more
-- entry (`floor_one_more`) or list (`floors_one_more`).
use Rattle.tsp_routing.proofs.Prelude.{◌≡◌, ◌<◌, ◌+◌, ◌++◌, ◌∙◌, ℕ, ℤ, zero, suc, List, [], ◌∷◌, take, pos, length, get_or, sym, ap, subst, arith, inl, inr, ◌≤ℤ◌, Vec, ints, cases_eq, take_more, All-push, All-weaker, get_or_push, get_or_append_left, length-append}
use Rattle.tsp_routing.specs.declared.kept_states.KeptState.{KeptState}
use Rattle.tsp_routing.specs.states.KeptLists.{IsFloor, IsFloorRow, AreFloors}
use Rattle.tsp_routing.specs.states.RunTables.{item_lists}

-- one entry more
pub floor_one_more : (entries : List KeptState) (index : ℕ) (entry : KeptState) (floor lower : ℤ) → index < length entries
    → entry ≡ get_or entries index entry → lower ≤ℤ floor → lower ≤ℤ entry.weight
    → IsFloor (take index entries) floor → IsFloor (take (index + 1) entries) lower
floor_one_more entries index entry floor lower lt is le own above =
    subst (λ (xs : List KeptState). IsFloor xs lower)
    (sym (take_more entries index entry lt ∙ ap (λ (e : KeptState). take index entries ++ e ∷ []) (sym is)))
    (All-push (λ (e : KeptState). lower ≤ℤ e.weight) (take index entries) entry
    (All-weaker (λ (e : KeptState). floor ≤ℤ e.weight) (λ (e : KeptState). lower ≤ℤ e.weight)
    (λ e over. omega (arith, ints, le, over)) (take index entries) above) own)

-- one list more
pub floors_one_more : (lists : List (List KeptState)) (floors : List ℤ) (own : ℤ) (index : ℕ) → length floors ≡ index
    → ((last : ℕ) → last < index → IsFloor (get_or lists last []) (get_or floors last (pos 0)))
    → IsFloor (get_or lists index []) own
    → (last : ℕ) → last < index + 1 → IsFloor (get_or lists last []) (get_or (floors ++ own ∷ []) last (pos 0))
floors_one_more lists floors own index long all floor last lt = elim (cases_eq last index) [
  | inl same ↦
      subst (λ (k : ℕ). IsFloor (get_or lists k []) (get_or (floors ++ own ∷ []) k (pos 0))) (sym same)
      (subst (IsFloor (get_or lists index [])) (sym (get_or_push floors own (pos 0) index long)) floor)
  | inr other ↦
      subst (IsFloor (get_or lists last [])) (sym (get_or_append_left floors (own ∷ []) (pos 0) last (omega (arith, lt, other, long))))
      (all last (omega (arith, lt, other)))
]

-- one row more, of two tables
rows_one_more : (table : List (Vec (Vec KeptState))) (floors : List (Vec ℤ)) (row : Vec (Vec KeptState)) (own : Vec ℤ)
    → length floors ≡ length table
    → ((load : ℕ) → load < length table → IsFloorRow (item_lists (get_or (item_lists table) load [])) (get_or (item_lists floors) load []))
    → IsFloorRow (item_lists row.items) own.items
    → (load : ℕ) → load < length (table ++ row ∷ [])
    → IsFloorRow (item_lists (get_or (item_lists (table ++ row ∷ [])) load [])) (get_or (item_lists (floors ++ own ∷ [])) load [])
rows_one_more [] [] row own long all last zero lt = last
rows_one_more [] [] row own long all last (suc load) lt = absurd (omega (arith, lt))
rows_one_more [] (floor ∷ floors) row own long all last load lt = absurd (omega (arith, long))
rows_one_more (first ∷ table) [] row own long all last load lt = absurd (omega (arith, long))
rows_one_more (first ∷ table) (floor ∷ floors) row own long all last zero lt = all zero (omega arith)
rows_one_more (first ∷ table) (floor ∷ floors) row own long all last (suc load) lt =
    rows_one_more table floors row own (omega (arith, long)) (λ k short. all (suc k) (omega (arith, short))) last load (omega (arith, lt))

pub floors_pushed : (table : List (Vec (Vec KeptState))) (floors : List (Vec ℤ)) (row : Vec (Vec KeptState)) (own : Vec ℤ)
    → AreFloors table floors → IsFloorRow (item_lists row.items) own.items → AreFloors (table ++ row ∷ []) (floors ++ own ∷ [])
floors_pushed table floors row own h last =
    let first = length-append floors (own ∷ []) in
    let second = length-append table (row ∷ []) in
    let long = h.loads in
    record {
      loads = omega (arith, first, second, long);
      rows = rows_one_more table floors row own long h.rows last;
    }
