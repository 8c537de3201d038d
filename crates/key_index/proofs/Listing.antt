-- The lists of an index. What carries it: a class has one list only, whose members are in the index, and in a list one key has one member.
use mathlib.Core.Path.{◌≡◌, sym, ap, subst}
use mathlib.Core.List.{List}
use Prim.Native.Nat.{ℕ, ◌≤◌, ◌<◌}
use native.Mathlib.Omega.{arith}
use lib.ListN.{length, get_or}
use Rattle.numbers.specs.Marks.{LIMIT, NONE}
use Rattle.lists.specs.Lists.{All, In, Distinct}
use Rattle.lists.proofs.Members.{all_both}
use Rattle.links.specs.Chain.{cells}
use Rattle.links.proofs.Chains.{chain_one, chain_below, chain_unmarked, chain_distinct}
use Rattle.key_index.specs.Class.{class_of}
use Rattle.key_index.specs.Index.{slot_class, link_of, Has, Listed, IndexSound}
use Rattle.key_index.proofs.Ascending.{asc_one}

module _ (index keys : List ℕ) (limit : length keys ≤ LIMIT) where
  pub listed_one : (c : ℕ) (ss rs : List ℕ) → Listed index keys c ss → Listed index keys c rs → ss ≡ rs
  listed_one c ss rs l m = chain_one (length keys) (link_of index keys) limit (get_or index c 0) ss rs l.chain m.chain

  pub listed_distinct : (c : ℕ) (ss : List ℕ) → Listed index keys c ss → Distinct ss
  listed_distinct c ss l = chain_distinct (length keys) (link_of index keys) limit (get_or index c 0) ss l.chain

  pub listed_has : (c : ℕ) (ss : List ℕ) → Listed index keys c ss → All (Has index keys) ss
  listed_has c ss l =
      all_both (λ x. x < length keys) (λ x. link_of index keys x ≤ NONE) (Has index keys) (λ x b m. (b, λ e. omega arith)) ss
      (chain_below (length keys) (link_of index keys) (get_or index c 0) ss l.chain)
      (chain_unmarked (length keys) (link_of index keys) limit (get_or index c 0) ss l.chain)

module _ (index keys : List ℕ) (sound : IndexSound index keys) where
  -- a slot that is in the index is in the list of its key's class
  pub has_in : (s : ℕ) → Has index keys s → (c : ℕ) → slot_class keys s ≡ c → (ss : List ℕ) → Listed index keys c ss → In s ss
  has_in s h c e ss l =
      let r = sound.listed s h in
      subst (In s) (listed_one index keys sound.limit c r.0 ss (subst (λ (d : ℕ). Listed index keys d r.0) e r.1) l) r.2

  -- two slots in the index with one key are one
  pub has_one : (x y : ℕ) → Has index keys x → Has index keys y → cells keys x ≡ cells keys y → x ≡ y
  has_one x y h i e =
      let r = sound.listed x h in
      asc_one (cells keys) r.0 x y r.1.ascending r.2 (has_in y i _ (ap (λ (k : ℕ). class_of k (length keys)) (sym e)) r.0 r.1) e
