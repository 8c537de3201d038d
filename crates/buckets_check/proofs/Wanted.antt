-- Tables that hold a ledger pass every step of the check. In the ledger each slot stands once, among the bound ones or in the free order:
-- the lists' mark says which, and the arena, the index and the cells go with it.
use mathlib.Core.Path.{◌≡◌, sym, ap, ◌∙◌}
use mathlib.Core.Logic.{◌≢◌}
use Prim.Native.Nat.{ℕ, ◌+◌, ◌<◌}
use native.Mathlib.Omega.{arith}
use lib.ListN.{length}
use Rattle.lists.specs.Lists.{times}
use Rattle.lists.proofs.Members.{all_in, times_in}
use Rattle.ledger.specs.Ledger.{Ledger, items, slotted}
use Rattle.ledger.proofs.Slots.{below_yes}
use Rattle.links.specs.Chain.{cells}
use Rattle.levels.specs.Levels.{members}
use Rattle.buckets_tables.specs.declared.State.{State}
use Rattle.buckets_tables.specs.Tables.{Tables, leveled}
use Rattle.buckets_tables.specs.Holds.{lowest_of, Blank, Holds}
use Rattle.buckets_tables.proofs.Entries.{slotted_members}
use Rattle.buckets_tables.proofs.Steps.{lowest_levels}
use Rattle.buckets_check.specs.Check.{Off, On, Passes}
use Rattle.buckets_check.proofs.Sides.{listed_free, listed_bound, free_used, used_free, bound_used}

module _ (t : Tables) (s : State) (l : Ledger) (h : Holds t s l) where
  -- how often a slot is bound is how often it stands in the lists
  bound_listed : (x : ℕ) → slotted x (items l.levels) ≡ times x (members h.slots)
  bound_listed x = ap (λ ls. slotted x (items ls)) h.entries ∙ slotted_members t.keys t.epochs x h.slots

  module _ (x : ℕ) (b : x < length t.keys) where
    -- bound or free, once
    once : times x (members h.slots) + times x l.free ≡ 1
    once =
        let k = h.sized.keys_size in
        let y = below_yes x l.capacity (omega arith) in
        let w = h.formed.slots x in
        let e = bound_listed x in
        omega arith

    in_lists : x < length t.freqs
    in_lists = let k = h.sized.keys_size in let f = h.sized.freqs_size in omega arith

    in_arena : x < length t.arena
    in_arena = let k = h.sized.keys_size in let a = h.sized.arena_size in omega arith

    off : cells t.nexts x ≡ x → Off t.keys t.epochs t.arena t.index x
    off e =
        let z = listed_free (leveled t) s.buckets h.slots h.lists x in_lists e in
        let o = once in
        record {
          unused = λ u. let f = free_used t.arena s.free l.free h.free x u in omega arith;
          out = λ i. let c = (h.indexed x).0 i in let g = bound_listed x in omega arith;
          blank = all_in (Blank t.keys t.epochs) l.free x h.zeros (times_in x l.free (omega arith));
        }

    on : cells t.nexts x ≢ x → On t.keys t.arena t.index x
    on d =
        let z = listed_bound (leveled t) s.buckets h.slots h.lists x in_lists d in
        let o = once in
        let g = bound_listed x in
        record {
          used = used_free t.arena s.free l.free h.free x in_arena (omega arith);
          indexed = (h.indexed x).1 (omega arith);
        }

  pub wanted : Passes t s
  wanted = record {
    arena_sound = (l.free, h.free);
    index_sound = h.index_sound;
    lists_sound = (h.slots, h.lists);
    agree = λ x b. record { free = off x b; bound = on x b };
    count = h.count ∙ bound_used t.arena s.free l h.formed h.free h.sized.arena_size;
    lowest = h.lowest ∙ ap lowest_of h.entries ∙ sym (lowest_levels t.keys t.epochs h.slots);
  }
