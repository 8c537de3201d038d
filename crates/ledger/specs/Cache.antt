-- The cache: a ledger with a value for each slot, its calls, and what they answer.
use Rattle.std.specs.Prelude.{◌≡◌, List, [], ◌∷◌, ℕ, ◌+◌, length, get_or, set, replicate}
use Rattle.std.proofs.Math.Option.{Option, none, some}
use Rattle.numbers.specs.Frequency.{CEILING, raised}
use Rattle.numbers.specs.declared.Refusal.TheVariants.{Absent, Full, Empty}
use Rattle.lists.specs.Lists.{times}
use Rattle.ledger.specs.Ledger.{Ledger, Item, WellFormed, new, lookup, if_found, size, lowest, put, release, move, restart}
use Rattle.ledger.specs.Buckets.{Reply, done, refused}

pub record Cache : Type 0 where
  pub table : Ledger
  pub values : List ℕ

abbrev pub new_cache : ℕ → Cache
new_cache c = record { table = new c; values = replicate c 0 }

-- a value for each slot, 0 for a free one
pub record CacheFormed (c : Cache) : Type 0 where
  pub table : WellFormed c.table
  pub fits : length c.values ≡ c.table.capacity
  pub zeros : (s : ℕ) → times s c.table.free ≡ 1 → get_or c.values s 0 ≡ 0

-- What the calls answer, by kind

-- bound, bound after another key went, the old value of a key that was bound, or no room at all
pub data Insertion : Type 0 where
  fresh : Insertion
  fresh_out : (victim : ℕ) → Insertion
  old : (value : ℕ) → Insertion
  full : Insertion

pub data Lookup : Type 0 where
  hit : ℕ → Lookup
  miss : Lookup

pub data Least : Type 0 where
  least : (key value : ℕ) → Least
  nothing : Least

-- document 01's answer and numbers for each; an insert is DONE in three ways, and a first number, which is ours, tells them apart
abbrev pub insert_reply : Insertion → Reply
insert_reply fresh = done (0 ∷ [])
insert_reply (fresh_out k) = done (1 ∷ k ∷ [])
insert_reply (old v) = done (2 ∷ v ∷ [])
insert_reply full = refused Full

abbrev pub lookup_reply : Lookup → Reply
lookup_reply (hit v) = done (v ∷ [])
lookup_reply miss = refused Absent

abbrev pub least_reply : Least → Reply
least_reply (least k v) = done (k ∷ v ∷ [])
least_reply nothing = refused Empty

-- The four changes: a ledger's change, and what it does to the value

abbrev pub value_of : Item → Cache → ℕ
value_of x c = get_or c.values x.slot 0

abbrev pub bind : ℕ → ℕ → ℕ → List ℕ → Cache → Cache
bind k v s rest c = record { table = put k s rest c.table; values = set c.values s v }

abbrev pub unbind : Item → Cache → Cache
unbind x c = record { table = release x c.table; values = set c.values x.slot 0 }

abbrev pub moved : Item → ℕ → Cache → Cache
moved x f c = record { table = move x f c.table; values = c.values }

abbrev pub restarted : Item → Cache → Cache
restarted x c = record { table = restart x c.table; values = c.values }

-- The calls

-- no free slot: the `pop_min` key goes first and is reported, and its slot is the one that is free then; FULL at capacity 0
abbrev pub insert_full : Option Item → ℕ → ℕ → Cache → Insertion × Cache
insert_full none k v c = (full, c)
insert_full (some x) k v c = (fresh_out x.key, bind k v x.slot [] (unbind x c))

abbrev pub insert_new : List ℕ → ℕ → ℕ → Cache → Insertion × Cache
insert_new (s ∷ rest) k v c = (fresh, bind k v s rest c)
insert_new [] k v c = insert_full (lowest c.table.levels) k v c

-- a bound key: the value is replaced and the old one answered; neither frequency nor list is touched
abbrev pub insert_at : Option Item → ℕ → ℕ → Cache → Insertion × Cache
insert_at (some x) k v c = (old (value_of x c), record { table = c.table; values = set c.values x.slot v })
insert_at none k v c = insert_new c.table.free k v c

unfoldable pub cache_insert : ℕ → ℕ → Cache → Insertion × Cache
cache_insert k v c = insert_at (lookup k c.table) k v c

-- touches, and answers the value
unfoldable pub cache_get : ℕ → Cache → Lookup × Cache
cache_get k c = if_found (lookup k c.table) (miss, c) (λ x. (hit (value_of x c), moved x (raised CEILING x.frequency) c))

-- answers it and doesn't touch
unfoldable pub cache_peek : ℕ → Cache → Lookup × Cache
cache_peek k c = if_found (lookup k c.table) (miss, c) (λ x. (hit (value_of x c), c))

unfoldable pub cache_remove : ℕ → Cache → Lookup × Cache
cache_remove k c = if_found (lookup k c.table) (miss, c) (λ x. (hit (value_of x c), unbind x c))

-- answers the previous frequency; the key starts again, in its slot and with its value (document 02, K4)
unfoldable pub cache_reset : ℕ → Cache → Lookup × Cache
cache_reset k c = if_found (lookup k c.table) (miss, c) (λ x. (hit x.frequency, restarted x c))

unfoldable pub cache_peek_lfu : Cache → Least × Cache
cache_peek_lfu c = if_found (lowest c.table.levels) (nothing, c) (λ x. (least x.key (value_of x c), c))

unfoldable pub cache_evict : Cache → Least × Cache
cache_evict c = if_found (lowest c.table.levels) (nothing, c) (λ x. (least x.key (value_of x c), unbind x c))

unfoldable pub cache_clear : Cache → Cache
cache_clear c = new_cache c.table.capacity

unfoldable pub cache_len : Cache → ℕ
cache_len c = size c.table

-- Batches: the single call for each item in order, past refusals

-- an insert counts where the key is newly bound
abbrev pub newly_bound : Insertion → ℕ
newly_bound fresh = 1
newly_bound (fresh_out k) = 1
newly_bound (old v) = 0
newly_bound full = 0

unfoldable pub cache_insert_batch : List (ℕ × ℕ) → Cache → ℕ × Cache
cache_insert_batch [] c = (0, c)
cache_insert_batch (p ∷ ps) c =
    let first = cache_insert p.0 p.1 c in
    let rest = cache_insert_batch ps first.1 in
    (newly_bound first.0 + rest.0, rest.1)

abbrev pub was_hit : Lookup → ℕ
was_hit (hit v) = 1
was_hit miss = 0

abbrev pub key_batch : (ℕ → Cache → Lookup × Cache) → List ℕ → Cache → ℕ × Cache
key_batch call [] c = (0, c)
key_batch call (k ∷ ks) c =
    let first = call k c in
    let rest = key_batch call ks first.1 in
    (was_hit first.0 + rest.0, rest.1)

unfoldable pub cache_remove_batch : List ℕ → Cache → ℕ × Cache
cache_remove_batch ks c = key_batch cache_remove ks c

-- touches each bound key
unfoldable pub cache_touch_batch : List ℕ → Cache → ℕ × Cache
cache_touch_batch ks c = key_batch cache_get ks c
