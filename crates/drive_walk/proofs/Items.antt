-- Writing the items of a walk, one behind another. What carries it: whatever writes the items that are left, from here on, has written all of
-- them from the start; so the loop has only to know what is left.
use mathlib.Core.Path.{◌≡◌, refl, sym, ap, ◌∙◌, subst}
use mathlib.Core.List.{List, [], ◌∷◌, append-nil}
use Rattle.std.proofs.Common.{Option, Some, None, Result, Ok, Err}
use Prim.Native.Nat.{ℕ, ◌+◌, ◌*◌, ◌≤◌, ◌<◌, ◌-◌}
use native.Mathlib.Nat.{add-zero}
use native.Mathlib.Omega.{arith}
use lib.ListN.{length, get_or}
use Rattle.numbers.specs.Marks.{LIMIT}
use Rattle.numbers.specs.declared.Refusal.{Refusal}
use Rattle.numbers.specs.declared.Slot.{Slot}
use Rattle.lists.specs.Lists.{All}
use Rattle.ledger.specs.Ledger.{Item}
use Rattle.frequency_buckets_walker.specs.declared.Stand.{Stand}
use Rattle.frequency_buckets_walker.specs.Walks.{Linked, Onward, Shows}
use Rattle.trace.specs.Lines.{DIGITS, spaced}
use Rattle.trace.specs.Written.{Writes, Spells}
use Rattle.trace.proofs.Writing.{writes_then, spells_then}
use Rattle.drive_walk.specs.Walk.{behind, item_text, items_text, ITEM, Listable, Placed, Says, Lists}

pub item_spelled : (x k e : ℕ) (a : List ℕ) (i : ℕ) (b : List ℕ) (j : ℕ) (c : List ℕ) (m : ℕ) (d : List ℕ) (r : ℕ) → Spells a i (spaced x) (1 + DIGITS) b j →
    Spells b j (behind k) (1 + DIGITS) c m → Spells c m (behind e) (1 + DIGITS) d r → Spells a i (item_text x k e) ITEM d r
item_spelled x k e a i b j c m d r first second third =
    spells_then a i (spaced x) b j _ d r (1 + DIGITS) ((1 + DIGITS) + (1 + DIGITS)) first
    (spells_then b j (behind k) c m (behind e) d r (1 + DIGITS) (1 + DIGITS) second third)

-- What is lent

module _ (k e n : List ℕ) (h : Listable k e n) where
  pub linked : Linked n
  linked = let (f, p, a, i, b, sp, s, held) = h in (k, f, e, p, a, i, b, sp, s, held)

  pub sizes : (length k ≤ LIMIT) × (length e ≡ length k)
  sizes = let c = h.7.1 in (omega (arith, c.limit, c.sized.keys_size), c.sized.epochs_size ∙ sym c.sized.keys_size)

  -- a step answers only slots that have a place
  pub placed : (st st' : Stand) → Onward n st st' → Placed k st'
  placed st st' w x q = ((h.7.1.indexed x.0).1 (w.bound x q k h.0 e h.1 h.2 h.3 h.4 h.5 h.6 h.7.0 h.7.1)).0

-- Where nothing is left

-- an answer that is no slot
stood : Result (Option Slot) Refusal → ℕ
stood (Ok (Some x)) = 1
stood (Ok None) = 0
stood (Err w) = 0

pub no_more : (a : Result (Option Slot) Refusal) (o : Option Slot) → a ≡ Ok o → o ≡ None → (x : Slot) → a ≡ Ok (Some x) → ⊥
unfolding stood
no_more a o is none x e = let c : ◌≡◌ {A = ℕ} 0 1 = ap stood (sym (is ∙ ap Ok none) ∙ e) in absurd (omega arith)

pub was_refused : (a : Result (Option Slot) Refusal) (w : Refusal) → a ≡ Err w → (x : Slot) → a ≡ Ok (Some x) → ⊥
unfolding stood
was_refused a w is x e = let c : ◌≡◌ {A = ℕ} 0 1 = ap stood (sym is ∙ e) in absurd (omega arith)

-- an answer that is one
pub slot_told : (a b : Result (Option Slot) Refusal) (o : Option Slot) (x : Slot) → a ≡ b → a ≡ Ok o → o ≡ Some x → b ≡ Ok (Some x)
slot_told a b o x told is some = sym told ∙ is ∙ ap Ok some

-- the reader has answered no slot
pub none_left : (n : List ℕ) (st : Stand) (a : Result (Option Slot) Refusal) → a ≡ st.answer → ((x : Slot) → a ≡ Ok (Some x) → ⊥) → (ys : List Item) → Shows n st ys → ys ≡ []
none_left n st a q t [] h = refl
none_left n st a q t (y ∷ ys) h = absurd (t _ (q ∙ h.0))

pub no_room : (ys : List Item) → length ys ≤ 0 → ys ≡ []
no_room [] h = refl
no_room (y ∷ ys) h = absurd (omega arith)

-- The loop

module _ (k e n : List ℕ) (first : Stand) (out₀ : List ℕ) (at : ℕ) where
  -- what stands in `out` before `end` is written, and from st on the reader shows the rest
  pub record Left (out : List ℕ) (st : Stand) (end left : ℕ) (xs : List Item) : Type 0 where
    pub ys : List Item
    pub shows : Shows n st ys
    pub says : All (Says k e) ys
    pub fit : length ys ≤ left
    pub rest : (d : List ℕ) (r : ℕ) → Writes out end (items_text ys) d r → Writes out₀ at (items_text xs) d r

  pub record Written (out : List ℕ) (st : Stand) (end left : ℕ) : Type 0 where
    pub size : length out ≡ length out₀
    pub few : left ≤ length k
    pub place : Placed k st
    pub room : end + left * ITEM ≤ at + length k * ITEM
    pub goes : (xs : List Item) → Shows n first xs → All (Says k e) xs → length xs ≤ length k → Left out st end left xs

  pub begun : Placed k first → Written out₀ first at (length k)
  begun p = record {
    size = refl;
    few = omega arith;
    place = p;
    room = omega arith;
    goes = λ xs h s b. record { ys = xs; shows = h; says = s; fit = b; rest = λ d r w. w };
  }

  pub ended : (out : List ℕ) (st : Stand) (end left : ℕ) → Written out st end left → ((ys : List Item) → Shows n st ys → length ys ≤ left → ys ≡ []) →
      Lists k e n first out₀ at out end
  ended out st end left w none = record {
    room = omega (arith, w.room);
    writes = λ xs h s b.
        let l = w.goes xs h s b in
        l.rest out end (subst (λ (zs : List Item). Writes out end (items_text zs) out end) (sym (none l.ys l.shows l.fit))
        (record { next = sym (add-zero end); written = sym (append-nil _) }));
  }

  module _ (out : List ℕ) (st : Stand) (end left : ℕ) (x : Slot) (here : Ok (Some x) ≡ st.answer)
      (out' : List ℕ) (end' : ℕ) (wrote : Spells out end (item_text x.0 (get_or k x.0 0) (get_or e x.0 0)) ITEM out' end')
      (st' : Stand) (stepped : Onward n st st') (some : 0 < left) where
    go_on : (xs ys : List Item) → Shows n st ys → All (Says k e) ys → length ys ≤ left →
        ((d : List ℕ) (r : ℕ) → Writes out end (items_text ys) d r → Writes out₀ at (items_text xs) d r) → Left out' st' end' (left - 1) xs
    go_on xs [] h s b on = let z = h.0 in let c : ◌≡◌ {A = ℕ} 0 1 = cc in absurd (omega arith)
    go_on xs (y ∷ ys) h s b on =
        let z = h.0 in
        let there : x ≡ record { 0 = y.slot } = cc in
        let slot_is : x.0 ≡ y.slot = ap (λ (w : Slot). w.0) there in
        let key_is = ap (λ (w : ℕ). get_or k w 0) slot_is ∙ s.0.0 in
        let epoch-is = ap (λ (w : ℕ). get_or e w 0) slot_is ∙ s.0.1 in
        let text-is : item_text x.0 (get_or k x.0 0) (get_or e x.0 0) ≡ item_text y.slot y.key y.epoch = λ i. item_text (slot_is i) (key_is i) (epoch-is i) in
        record {
          ys = ys;
          shows = h.1 st' stepped.steps;
          says = s.1;
          fit = omega arith;
          rest = λ d r w. on d r (writes_then out end _ out' end' (items_text ys) d r (subst (λ (t : List ℕ). Writes out end t out' end') text-is wrote.writes) w);
        }

    pub more : Listable k e n → length out' ≡ length out → Written out st end left → Written out' st' end' (left - 1)
    more held same w = record {
      size = same ∙ w.size;
      few = omega (arith, w.few);
      place = placed k e n held st st' stepped;
      room = omega (arith, w.room, wrote.short);
      goes = λ xs h s b. let l = w.goes xs h s b in go_on xs l.ys l.shows l.says l.fit l.rest;
    }
