-- What two lent tables and the ends of a list hold, and what each call does to it.
use Rattle.std.specs.Prelude.{◌≡◌, ℕ, ◌<◌, ◌≤◌, ◌≢◌, ◌⊎◌, List, ◌∷◌, ◌++◌, length}
use Rattle.numbers.specs.Marks.{NONE}
use Rattle.lists.specs.Lists.{All, Without}
use Rattle.links.specs.Chain.{cells}
use Rattle.links.specs.Ring.{Links, upd, look}
use Rattle.links.specs.declared.Ends.{Ends}

-- the tables of the slot before and the slot after, and the ends of one list
pub record Linked : Type 0 where
  pub prevs : List ℕ
  pub nexts : List ℕ
  pub ends : Ends

abbrev pub linked : List ℕ → List ℕ → Ends → Linked
linked p n e = record { prevs = p; nexts = n; ends = e }

-- the slot after a slot; after NONE comes the head
abbrev pub next : Linked → ℕ → ℕ
next t = look (cells t.nexts) t.ends.head

-- the slot before a slot; before NONE comes the tail
abbrev pub prev : Linked → ℕ → ℕ
prev t = look (cells t.prevs) t.ends.tail

-- the tables hold the list xs: a ring of links from NONE through xs to NONE, and as many slots as the ends say
pub record Ring (t : Linked) (xs : List ℕ) : Type 0 where
  pub slots : All (λ i. i < length t.prevs) xs
  pub links : Links (next t) (prev t) NONE xs NONE
  pub many : t.ends.count ≡ length xs

-- s is a slot of two tables of one size, in which NONE is no slot
pub record Fits (p n : List ℕ) (s : ℕ) : Type 0 where
  pub even : length n ≡ length p
  pub room : length p ≤ NONE
  pub slot : s < length p

-- a table with an end has v as the link of i, and is else as it was
pub record Put (t : List ℕ) (e i v : ℕ) (t' : List ℕ) (e' : ℕ) : Type 0 where
  pub size : length t' ≡ length t
  pub link : (i < length t) ⊎ (i ≡ NONE) → look (cells t') e' ≡ upd (look (cells t) e) i v
  pub rest : (k : ℕ) → k ≢ i → cells t' k ≡ cells t k

-- the tables are as long as they were
pub record LinksSized (t t' : Linked) : Type 0 where
  pub prevs_size : length t'.prevs ≡ length t.prevs
  pub nexts_size : length t'.nexts ≡ length t.nexts

-- both links of slot k are as they were
abbrev pub Kept : Linked → Linked → ℕ → Type 0
Kept t t' k = (cells t'.prevs k ≡ cells t.prevs k) × (cells t'.nexts k ≡ cells t.nexts k)

-- every slot that is not in the list has the links that it had
abbrev pub Elsewhere : List ℕ → Linked → Linked → Type 0
Elsewhere xs t t' = (k : ℕ) → k < length t.prevs → Without k xs → Kept t t' k

pub record Pushed (t : Linked) (s : ℕ) (t' : Linked) : Type 0 where
  pub sized : LinksSized t t'
  pub list : (xs : List ℕ) → Ring t xs → Without s xs → Ring t' (s ∷ xs)
  pub rest : (xs : List ℕ) → Ring t xs → Elsewhere (s ∷ xs) t t'

pub record Unlinked (t : Linked) (s : ℕ) (t' : Linked) : Type 0 where
  pub sized : LinksSized t t'
  pub list : (us vs : List ℕ) → Ring t (us ++ s ∷ vs) → Ring t' (us ++ vs)
  pub rest : (us vs : List ℕ) → Ring t (us ++ s ∷ vs) → Elsewhere (us ++ s ∷ vs) t t'

pub record Moved (t : Linked) (s : ℕ) (t' : Linked) : Type 0 where
  pub sized : LinksSized t t'
  pub list : (us vs : List ℕ) → Ring t (us ++ s ∷ vs) → Ring t' (s ∷ (us ++ vs))
  pub rest : (us vs : List ℕ) → Ring t (us ++ s ∷ vs) → Elsewhere (us ++ s ∷ vs) t t'
