-- What an index does not depend on: the keys of slots that are not in it, and its places. What carries it: one key has one slot.
use mathlib.Core.Path.{◌≡◌, refl, sym, ◌∙◌, subst}
use mathlib.Core.Logic.{◌≢◌, ◌↔◌}
use mathlib.Core.List.{List, [], ◌∷◌}
use Prim.Native.Nat.{ℕ, ◌+◌, ◌<◌}
use native.Mathlib.Omega.{arith}
use lib.ListN.{length, get_or}
use Rattle.std.specs.Prelude.{Option, Some, None}
use Rattle.numbers.specs.declared.Slot.{Slot}
use Rattle.lists.specs.Lists.{All}
use Rattle.lists.proofs.Members.{all_map, all_both}
use Rattle.links.specs.Chain.{Chain, cells}
use Rattle.key_index.specs.Index.{slot_class, OUT, Has, Ascending, Listed, Finds, IndexSound}
use Rattle.key_index.proofs.Listing.{listed_has, has_one}

-- ---- other keys

ascending_same : (key key' : ℕ → ℕ) (ss : List ℕ) → All (λ s. key' s ≡ key s) ss → Ascending key ss → Ascending key' ss
ascending_same key key' [] e a = tt
ascending_same key key' (s ∷ ss) e a = (
  all_both (λ r. key s < key r) (λ r. key' r ≡ key r) (λ r. key' s < key' r) (λ r l q. omega (arith, e.0)) ss a.0 e.1,
  ascending_same key key' ss e.1 a.1,
)

module _ (index keys keys' : List ℕ) (size : length keys' ≡ length keys) where
  -- whether a slot is in does not depend on the keys
  pub has_frame : (s : ℕ) → Has index keys' s ↔ Has index keys s
  has_frame s = (
    subst (λ (n : ℕ). (s < n) × (get_or index (n + s) 0 ≢ OUT)) size,
    subst (λ (n : ℕ). (s < n) × (get_or index (n + s) 0 ≢ OUT)) (sym size),
  )

  class_frame : (s : ℕ) → cells keys' s ≡ cells keys s → slot_class keys' s ≡ slot_class keys s
  class_frame s e = cc

  listed_frame : (c : ℕ) (ss : List ℕ) → All (λ s. cells keys' s ≡ cells keys s) ss → Listed index keys c ss → Listed index keys' c ss
  listed_frame c ss e l = record {
    chain = subst (λ (n : ℕ). Chain n (λ s. get_or index (n + s) 0) (get_or index c 0) ss) (sym size) l.chain;
    ascending = ascending_same (cells keys) (cells keys') ss e l.ascending;
    classes =
        all_both (λ s. cells keys' s ≡ cells keys s) (λ s. slot_class keys s ≡ c) (λ s. slot_class keys' s ≡ c)
        (λ s q i. class_frame s q ∙ i) ss e l.classes;
  }

  -- with the same keys at the slots that are in, an index is as sound as it was
  pub sound_frame : IndexSound index keys → ((s : ℕ) → Has index keys s → cells keys' s ≡ cells keys s) → IndexSound index keys'
  sound_frame sound same = record {
    limit = omega (arith, sound.limit);
    sized = omega (arith, sound.sized);
    chains = λ c l. let r = sound.chains c (omega arith) in (r.0, listed_frame c r.0 (kept c r.0 r.1) r.1);
    listed = λ s h.
        let i = (has_frame s).0 h in
        let r = sound.listed s i in (
          r.0,
          subst (λ (c : ℕ). Listed index keys' c r.0) (sym (class_frame s (same s i))) (listed_frame (slot_class keys s) r.0 (kept (slot_class keys s) r.0 r.1) r.1),
          r.2,
        );
  }
    where
      kept : (c : ℕ) (ss : List ℕ) → Listed index keys c ss → All (λ s. cells keys' s ≡ cells keys s) ss
      kept c ss l = all_map (Has index keys) (λ s. cells keys' s ≡ cells keys s) same ss (listed_has index keys sound.limit c ss l)

  -- and a search of it answers as it did
  pub finds_frame : ((s : ℕ) → Has index keys s → cells keys' s ≡ cells keys s) → (key : ℕ) (r : Option Slot) → Finds index keys key r → Finds index keys' key r
  finds_frame same key (Some s) f = ((has_frame s.0).1 f.0, same s.0 f.0 ∙ f.1)
  finds_frame same key None f = λ s h e. f s ((has_frame s).0 h) (sym (same s ((has_frame s).0 h)) ∙ e)

-- ---- other places

-- two indexes with the same slots in answer alike, wherever they keep them
pub finds_alike : (i j keys : List ℕ) (key : ℕ) (r r' : Option Slot) → IndexSound i keys → ((s : ℕ) → Has i keys s ↔ Has j keys s) → Finds i keys key r → Finds j keys key r' → r ≡ r'
finds_alike i j keys key (Some s) (Some s') sound same f g =
    let e = has_one i keys sound s.0 s'.0 f.0 ((same s'.0).1 g.0) (f.1 ∙ sym g.1) in
    λ k. Some (record { 0 = e k })
finds_alike i j keys key (Some s) None sound same f g = absurd (g s.0 ((same s.0).0 f.0) f.1)
finds_alike i j keys key None (Some s') sound same f g = absurd (f s'.0 ((same s'.0).1 g.0) g.1)
finds_alike i j keys key None None sound same f g = refl

-- a slot that is in is found by its key
pub finds_slot : (index keys : List ℕ) (s : Slot) (r : Option Slot) → IndexSound index keys → Has index keys s.0 → Finds index keys (cells keys s.0) r → r ≡ Some s
finds_slot index keys s r sound h f = finds_alike index index keys (cells keys s.0) r (Some s) sound (λ x. (λ q. q, λ q. q)) f (h, refl)
