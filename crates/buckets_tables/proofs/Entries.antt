-- Lists of slots read as the ledger's lists: how that goes with the ways in which lists change, and that it depends on nothing but
-- the cells of the slots in them. Inductions on the lists.
use Rattle.std.proofs.Common.{◌≡◌, ℕ, ◌+◌, Bool, true, false, cond, eqb, ltb, ◌≢◌, List, [], ◌∷◌, ◌++◌, refl, ap, ◌∙◌, arith}
use mathlib.Core.List.{map-append}
use Rattle.lists.specs.Lists.{All, Without, one, times}
use Rattle.lists.proofs.Members.{all_map, all_both, sum_append}
use Rattle.ledger.specs.Ledger.{Item, tag, items, level, slotted}
use Rattle.ledger.specs.Walk.{list_of}
use Rattle.ledger.proofs.Split.{level_of, joined, hit_at}
use Rattle.links.specs.Chain.{cells}
use Rattle.levels.specs.Levels as levels
use Rattle.levels.specs.Levels.{members, Nowhere, keep, join, touched, slot_list}
use Rattle.buckets_tables.specs.Holds.{entry_at, entries_at, levels_at, Blank}

-- two pairs of tables say the same of slot x
abbrev pub SameCells : (k e k' e' : List ℕ) → ℕ → Type 0
SameCells k e k' e' x = (cells k' x ≡ cells k x) × (cells e' x ≡ cells e x)

module _ (k e : List ℕ) where
  pub entries_append : (xs ys : List ℕ) → entries_at k e (xs ++ ys) ≡ entries_at k e xs ++ entries_at k e ys
  entries_append xs ys = map-append (entry_at k e) xs ys

  pub levels_append : (us vs : List levels.Level) → levels_at k e (us ++ vs) ≡ levels_at k e us ++ levels_at k e vs
  levels_append us vs = map-append (λ (l : levels.Level). level_of l.freq (entries_at k e l.slots)) us vs

  -- a level with a slot in the middle
  pub levels_at_lem : (us : List levels.Level) (f : ℕ) (xs : List ℕ) (x : ℕ) (ys : List ℕ) (vs : List levels.Level) →
      levels_at k e (us ++ levels.level f (xs ++ x ∷ ys) ∷ vs)
      ≡ levels_at k e us ++ level_of f (entries_at k e xs ++ entry_at k e x ∷ entries_at k e ys) ∷ levels_at k e vs
  levels_at_lem us f xs x ys vs =
      levels_append us (levels.level f (xs ++ x ∷ ys) ∷ vs)
      ∙ ap (λ es. levels_at k e us ++ level_of f es ∷ levels_at k e vs) (entries_append xs (x ∷ ys))

  pub levels_keep : (f : ℕ) (zs : List ℕ) (ls : List levels.Level) → levels_at k e (keep f zs ls) ≡ level f (entries_at k e zs) (levels_at k e ls)
  levels_keep f [] ls = refl
  levels_keep f (z ∷ zs) ls = refl

  pub levels_join : (x f : ℕ) (ls : List levels.Level) → levels_at k e (join x f ls) ≡ joined f (entry_at k e x) (levels_at k e ls)
  levels_join x f [] = refl
  levels_join x f (l ∷ ls) = go (eqb l.freq f)
    where
      go : (b : Bool) →
          levels_at k e (cond b (levels.level f (x ∷ l.slots) ∷ ls) (levels.level f (x ∷ []) ∷ l ∷ ls))
          ≡ cond b (level_of f (entry_at k e x ∷ entries_at k e l.slots) ∷ levels_at k e ls)
          (level_of f (entry_at k e x ∷ []) ∷ level_of l.freq (entries_at k e l.slots) ∷ levels_at k e ls)
      go true = refl
      go false = refl

  pub levels_touched : (cap x f : ℕ) (zs : List ℕ) (ls : List levels.Level) →
      levels_at k e (touched cap x f zs ls) ≡ hit_at cap (entry_at k e x) f (entries_at k e zs) (levels_at k e ls)
  levels_touched cap x f zs ls = go (ltb f cap)
    where
      go : (b : Bool) →
          levels_at k e (cond b (keep f zs (join x (f + 1) ls)) (levels.level f (x ∷ zs) ∷ ls))
          ≡ cond b (level f (entries_at k e zs) (joined (f + 1) (entry_at k e x) (levels_at k e ls)))
          (level_of f (entry_at k e x ∷ entries_at k e zs) ∷ levels_at k e ls)
      go true = levels_keep f zs (join x (f + 1) ls) ∙ ap (level f (entries_at k e zs)) (levels_join x (f + 1) ls)
      go false = refl

  -- the ledger's list of a frequency is that of the level's slots
  pub list_slots : (f : ℕ) (ls : List levels.Level) → list_of f (levels_at k e ls) ≡ tag f (entries_at k e (slot_list f ls)) []
  list_slots f [] = refl
  list_slots f (l ∷ ls) = go (eqb l.freq f) (list_slots f ls)
    where
      go : (b : Bool) → list_of f (levels_at k e ls) ≡ tag f (entries_at k e (slot_list f ls)) [] →
          cond b (tag f (entries_at k e l.slots) []) (list_of f (levels_at k e ls)) ≡ tag f (entries_at k e (cond b l.slots (slot_list f ls))) []
      go true q = refl
      go false q = q

  -- how often a slot stands among the items is how often it stands in the lists
  slotted_tag : (s f : ℕ) (xs : List ℕ) (zs : List Item) → slotted s (tag f (entries_at k e xs) zs) ≡ times s xs + slotted s zs
  slotted_tag s f [] zs = omega arith
  slotted_tag s f (x ∷ xs) zs = let ih = slotted_tag s f xs zs in omega arith

  pub slotted_members : (s : ℕ) (ls : List levels.Level) → slotted s (items (levels_at k e ls)) ≡ times s (members ls)
  slotted_members s [] = refl
  slotted_members s (l ∷ ls) =
      let ih = slotted_members s ls in
      let t = slotted_tag s l.freq l.slots (items (levels_at k e ls)) in
      let a = sum_append (λ x. one x s) l.slots (members ls) in
      omega arith

-- Only the cells of the slots in the lists matter

module _ (k e k' e' : List ℕ) where
  entries_same : (xs : List ℕ) → All (SameCells k e k' e') xs → entries_at k' e' xs ≡ entries_at k e xs
  entries_same [] h = refl
  entries_same (x ∷ xs) h = λ i. record { key = h.0.0 i; slot = x; epoch = h.0.1 i } ∷ entries_same xs h.1 i

  levels_same : (ls : List levels.Level) → All (λ (l : levels.Level). All (SameCells k e k' e') l.slots) ls → levels_at k' e' ls ≡ levels_at k e ls
  levels_same [] h = refl
  levels_same (l ∷ ls) h = λ i. level_of l.freq (entries_same l.slots h.0 i) ∷ levels_same ls h.1 i

  module _ (x : ℕ) (away : (y : ℕ) → y ≢ x → SameCells k e k' e' y) where
    -- lists without x, where the cells differ at x alone
    pub entries_away : (xs : List ℕ) → Without x xs → entries_at k' e' xs ≡ entries_at k e xs
    entries_away xs h = entries_same xs (all_map (λ y. y ≢ x) (SameCells k e k' e') away xs h)

    pub levels_away : (ls : List levels.Level) → Nowhere x ls → levels_at k' e' ls ≡ levels_at k e ls
    levels_away ls h =
        levels_same ls
        (all_map (λ (l : levels.Level). Without x l.slots) (λ (l : levels.Level). All (SameCells k e k' e') l.slots)
        (λ l w. all_map (λ y. y ≢ x) (SameCells k e k' e') away l.slots w) ls h)

    -- and blank slots stay blank
    pub still_blank : (xs : List ℕ) → Without x xs → All (Blank k e) xs → All (Blank k' e') xs
    still_blank xs h z = all_both (λ y. y ≢ x) (Blank k e) (Blank k' e') (λ y d b. ((away y d).0 ∙ b.0, (away y d).1 ∙ b.1)) xs h z
