-- The slot at the tail of the lowest list is let go; key and frequency are read before.
use Rattle.std.proofs.Common.{refl, rules}
use Rattle.buckets_tables.proofs.Asked as asked
use Rattle.buckets_tables.proofs.Doing as doing
use Rattle.buckets_calls.proofs.sound.pop_min.Goals as goal

pub lowest-requires : goal.lowest-requires
lowest-requires c = let w = c.requires.1 in (_, _, _, _, (w.slots, w.lists))

pub returns-in_default-clause-does : goal.returns-in_default-clause-does
returns-in_default-clause-does c = doing.pop_empty _ _ (λ l h. c.in_default.ensures.answer _ _ _ _ _ h.lists)

pub offset_bounds-guests-slot : goal.offset_bounds-guests-slot
offset_bounds-guests-slot c = let limit = asked.slot_limit _ _ _ (doing.pop_bound _ _ _ (λ l h. c.in-Some.ensures.answer _ _ _ _ _ h.lists) c.requires) in search rules

pub bounds-guests-slot : goal.bounds-guests-slot
bounds-guests-slot c = (asked.slot_sized _ _ _ (doing.pop_bound _ _ _ (λ l h. c.in-Some.ensures.answer _ _ _ _ _ h.lists) c.requires)).0

pub offset_bounds-levels-slot : goal.offset_bounds-levels-slot
offset_bounds-levels-slot c = let limit = asked.slot_limit _ _ _ (doing.pop_bound _ _ _ (λ l h. c.in-Some.ensures.answer _ _ _ _ _ h.lists) c.requires) in search rules

pub bounds-levels-slot : goal.bounds-levels-slot
bounds-levels-slot c = (asked.slot_sized _ _ _ (doing.pop_bound _ _ _ (λ l h. c.in-Some.ensures.answer _ _ _ _ _ h.lists) c.requires)).3

pub let_go-requires : goal.let_go-requires
let_go-requires c = doing.pop_bound _ _ _ (λ l h. c.in-Some.ensures.answer _ _ _ _ _ h.lists) c.requires

pub returns-clause-does : goal.returns-clause-does
returns-clause-does c = doing.pop_done _ _ _ (λ l h. c.in-Some.ensures.answer _ _ _ _ _ h.lists) _ _ refl refl _ _ c.let_go.ensures.does
