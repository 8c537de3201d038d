-- A record of `drive` leaves no choice: two results that its definition allows print the same line, and have the same tables and state or hold
-- the same thing. What carries it: one promise allows one reply, a check one answer, and tables are read in one way; a reply has one line, an
-- insert's too, for it is the reply of one answer; damage is a function, for tables and state are those of their lists of parts. Records in a
-- row agree by `prints_agree` wherever the tables and states after each are equal.
use mathlib.Core.Path.{◌≡◌, sym, ap, ◌∙◌}
use mathlib.Core.Logic.{◌⊎◌, inl, inr}
use mathlib.Core.List.{List, []}
use mathlib.Core.Option.{Option, none, some}
use Prim.Native.Nat.{ℕ, ◌/◌, ◌%◌, ◌≤◌, ◌<◌}
use lib.ListN.{length, get_or}
use Rattle.lists.proofs.Tests.{by_eq, by_lt}
use Rattle.ledger.specs.Ledger.{Ledger}
use Rattle.ledger.specs.Buckets.{Reply}
use Rattle.ledger.specs.BucketCalls.{BucketCall, calls}
use Rattle.ledger.specs.Cache.{Cache}
use Rattle.ledger.specs.History.{CacheCall, Insert, Get, Peek, Remove, Reset, PeekLfu, Evict, Clear, Len}
use Rattle.ledger.specs.CacheCalls.{cache_calls}
use Rattle.promise.specs.Promise.{Lent}
use Rattle.promise.proofs.Agree.{reads_one, promised_agree, checks_agree}
use Rattle.buckets_tables.specs.declared.State.{State}
use Rattle.buckets_tables.specs.Holds.{Holds}
use Rattle.buckets_tables.specs.Lent.{buckets}
use Rattle.buckets_tables.proofs.Read.{holds_one}
use Rattle.answers.specs.Replies.{plain_reply}
use Rattle.answers.proofs.Injective.{insertion_injective}
use Rattle.cache_tables.specs.Tables.{CacheTables, CacheHolds}
use Rattle.cache_tables.specs.Lent.{cache}
use Rattle.cache_tables.proofs.Cached.{cache_holds_one}
use Rattle.cache_tables.proofs.Agreeing.{HoldOne, CacheAgree, promises_agree}
use Rattle.lfu_batches.proofs.Agreeing.{inserts_agree}
use Rattle.trace.specs.declared.Word.{Word}
use Rattle.trace.specs.declared.Word.TheVariants.{Okay, Bad}
use Rattle.drive_lines.specs.declared.Told.{Told}
use Rattle.drive_lines.specs.declared.Told.TheVariants.{Just}
use Rattle.drive_lines.specs.Driving.{Reports}
use Rattle.drive_lines.specs.Lines.{text, reply_text, insertion_text}
use Rattle.drive_buckets.specs.Operations.{DrivesBuckets}
use Rattle.drive_damage.specs.Damage.{PLACES, listed, named, fields}
use Rattle.drive_cache.specs.Operations as cached
use Rattle.drive_cache.specs.Operations.{CacheOperation, Single, InsertAll, Batch, Says, DrivesCache}
use Rattle.drive_walk.specs.Walk.{walk_text}
use Rattle.drive_record.specs.Operations as operation
use Rattle.drive_record.specs.Operations.{Operation, Store, SetField, OnBuckets, OnCache, operation_of, Acts}
use Rattle.drive_record.specs.Steps.{DrivePrints}

-- the same tables and state; or, after a call on the buckets, one ledger beside the same values; or, after a call on the cache, one cache. What
-- may differ where one ledger is held is listed in docs/PLACEMENT.md.
pub data LeaveSame (t₁ : CacheTables) (s₁ : State) (t₂ : CacheTables) (s₂ : State) : Type 0 where
  equal : t₁ ≡ t₂ → s₁ ≡ s₂ → LeaveSame t₁ s₁ t₂ s₂
  one_ledger : (l : Ledger) → Holds t₁.base s₁ l → Holds t₂.base s₂ l → t₁.values ≡ t₂.values → LeaveSame t₁ s₁ t₂ s₂
  one_cache : (c : Cache) → CacheHolds t₁ s₁ c → CacheHolds t₂ s₂ c → LeaveSame t₁ s₁ t₂ s₂

pub record DriveAgree (line₁ : List ℕ) (t₁ : CacheTables) (s₁ : State) (line₂ : List ℕ) (t₂ : CacheTables) (s₂ : State) : Type 0 where
  pub printed : line₁ ≡ line₂
  pub after : LeaveSame t₁ s₁ t₂ s₂

-- Lines

module _ (m n : Told) where
  -- of a reply
  replies_agree : (r q : Reply) → text m ≡ reply_text r → text n ≡ reply_text q → r ≡ q → text m ≡ text n
  replies_agree r q x y e = x ∙ ap reply_text e ∙ sym y

  -- of the reply of a call on the cache, where an insert has a word
  says_agree : (c : CacheCall) (r q : Reply) → Says c m r → Says c n q → r ≡ q → text m ≡ text n
  says_agree (Insert k v) r q x y e = x.2 ∙ ap insertion_text (insertion_injective x.0 y.0 (sym x.1 ∙ e ∙ y.1)) ∙ sym y.2
  says_agree (Get k) r q x y e = replies_agree r q x y e
  says_agree (Peek k) r q x y e = replies_agree r q x y e
  says_agree (Remove k) r q x y e = replies_agree r q x y e
  says_agree (Reset k) r q x y e = replies_agree r q x y e
  says_agree PeekLfu r q x y e = replies_agree r q x y e
  says_agree Evict r q x y e = replies_agree r q x y e
  says_agree Clear r q x y e = replies_agree r q x y e
  says_agree Len r q x y e = replies_agree r q x y e

  -- of the check, on any kind of tables
  reports_agree : (k : Lent) → ((t : k.Tables) (s : k.State) (l j : k.Ledger) → k.Holds t s l → k.Holds t s j → l ≡ j) →
      (t : k.Tables) (s : k.State) → Reports k t s m → Reports k t s n → text m ≡ text n
  reports_agree k one t s x y =
      replies_agree (plain_reply x.0) (plain_reply y.0) x.1 y.1 (ap plain_reply (checks_agree k one t s x.0 y.0 x.2 y.2))

-- Damage

-- the tables are those of their list, and the state that of its fields
listed_injective : (t u : CacheTables) → listed t ≡ listed u → t ≡ u
listed_injective t u e =
    let at : (j : ℕ) → named j t ≡ named j u = λ j. ap (λ l. get_or l j []) e in
    λ i.
    record {
      base = record { keys = at 0 i; freqs = at 1 i; epochs = at 2 i; prevs = at 3 i; nexts = at 4 i; arena = at 5 i; index = at 6 i; buckets = at 7 i; spares = at 8 i };
      values = at 9 i;
    }

fields_injective : (s z : State) → fields s ≡ fields z → s ≡ z
fields_injective s z e =
    let at : (j : ℕ) → get_or (fields s) j 0 ≡ get_or (fields z) j 0 = λ j. ap (λ l. get_or l j 0) e in
    λ i.
    record {
      capacity = at 0 i;
      count = at 1 i;
      lowest = at 2 i;
      epoch = at 3 i;
      free = record { first = at 4 i; last = at 5 i };
      buckets = record { bottom = at 6 i; top = at 7 i; spare = record { first = at 8 i; last = at 9 i } };
    }

-- a word and what is left, by whether there is the place, are one
damage_one : {A : Type 0} (place size : ℕ) (w v : Word) (x y : A) {there here : A} →
    (place < size → (w ≡ Okay) × (x ≡ there)) → (size ≤ place → (w ≡ Bad) × (x ≡ here)) →
    (place < size → (v ≡ Okay) × (y ≡ there)) → (size ≤ place → (v ≡ Bad) × (y ≡ here)) → (w ≡ v) × (x ≡ y)
damage_one place size w v x y a b c d =
    by_lt place size (λ h. ((a h).0 ∙ sym (c h).0, (a h).1 ∙ sym (c h).1)) (λ h. ((b h).0 ∙ sym (d h).0, (b h).1 ∙ sym (d h).1))

-- Operations, from the tables t and the state s

module _ (t : CacheTables) (s : State) (m n : Told) (t₁ t₂ : CacheTables) (s₁ s₂ : State) where
  buckets_agree : (c : Option BucketCall) → DrivesBuckets c t.base s m t₁.base s₁ → DrivesBuckets c t.base s n t₂.base s₂ →
      t₁.values ≡ t₂.values → DriveAgree (text m) t₁ s₁ (text n) t₂ s₂
  buckets_agree none x y v = record {
    printed = ap text (x.0 ∙ sym y.0);
    after = equal (λ i. record { base = (x.1 ∙ sym y.1) i; values = v i }) (x.2 ∙ sym y.2);
  }
  buckets_agree (some c) x y v =
      let g = promised_agree buckets holds_one (calls c) t.base s x.0 y.0 t₁.base t₂.base s₁ s₂ x.2 y.2 in
      record { printed = replies_agree m n x.0 y.0 x.1 y.1 g.reply; after = left g.after }
    where
      left : ((t₁.base ≡ t₂.base) × (s₁ ≡ s₂)) ⊎ ((l : Ledger) × Holds t₁.base s₁ l × Holds t₂.base s₂ l) → LeaveSame t₁ s₁ t₂ s₂
      left (inl e) = equal (λ i. record { base = e.0 i; values = v i }) e.1
      left (inr h) = one_ledger h.0 h.1 h.2 v

  -- the reply of a call on the cache, in its line
  cached_agree : (r q : Reply) → (r ≡ q → text m ≡ text n) → CacheAgree r t₁ s₁ q t₂ s₂ → DriveAgree (text m) t₁ s₁ (text n) t₂ s₂
  cached_agree r q line g = record { printed = line g.reply; after = left g.after }
    where
      left : ((t₁ ≡ t₂) × (s₁ ≡ s₂)) ⊎ HoldOne t₁ s₁ t₂ s₂ → LeaveSame t₁ s₁ t₂ s₂
      left (inl e) = equal e.0 e.1
      left (inr h) = one_cache h.held h.first h.second

  cache_agree : (o : CacheOperation) → DrivesCache o t s m t₁ s₁ → DrivesCache o t s n t₂ s₂ → DriveAgree (text m) t₁ s₁ (text n) t₂ s₂
  unfolding DrivesCache
  cache_agree cached.None x y = record { printed = ap text (x.0 ∙ sym y.0); after = equal (x.1 ∙ sym y.1) (x.2 ∙ sym y.2) }
  cache_agree cached.Check x y = record { printed = reports_agree m n cache cache_holds_one t s x.0 y.0; after = equal (x.1 ∙ sym y.1) (x.2 ∙ sym y.2) }
  cache_agree (Single c) x y =
      cached_agree x.0 y.0 (says_agree m n c x.0 y.0 x.1 y.1) (promises_agree x.0 y.0 t₁ t₂ s₁ s₂ (cache_calls c) t s x.2 y.2)
  cache_agree (InsertAll ks vs) x y =
      cached_agree x.0 y.0 (replies_agree m n x.0 y.0 x.1 y.1) (inserts_agree ks vs t s x.0 y.0 t₁ t₂ s₁ s₂ x.2 y.2)
  cache_agree (Batch f) x y =
      cached_agree x.0 y.0 (replies_agree m n x.0 y.0 x.1 y.1) (promises_agree x.0 y.0 t₁ t₂ s₁ s₂ f t s x.2 y.2)

  acts_agree : (o : Operation) (a b : ℕ) → Acts o a b t s m t₁ s₁ → Acts o a b t s n t₂ s₂ → DriveAgree (text m) t₁ s₁ (text n) t₂ s₂
  acts_agree operation.Check a b x y = record { printed = reports_agree m n buckets holds_one t.base s x.0 y.0; after = equal (x.1 ∙ sym y.1) (x.2 ∙ sym y.2) }
  acts_agree Store a b x y =
      let d = damage_one (a % PLACES) (length (named (a / PLACES) t)) x.0 y.0 (listed t₁) (listed t₂) x.2.inside x.2.outside y.2.inside y.2.outside in
      record { printed = ap text (x.1 ∙ ap Just d.0 ∙ sym y.1); after = equal (listed_injective t₁ t₂ d.1) (x.3 ∙ sym y.3) }
  acts_agree SetField a b x y =
      let d = damage_one a (length (fields s)) x.0 y.0 (fields s₁) (fields s₂) x.2.inside x.2.outside y.2.inside y.2.outside in
      record { printed = ap text (x.1 ∙ ap Just d.0 ∙ sym y.1); after = equal (x.3 ∙ sym y.3) (fields_injective s₁ s₂ d.1) }
  acts_agree (OnBuckets c) a b x y = buckets_agree c x.0 y.0 (x.1 ∙ sym y.1)
  acts_agree (OnCache c) a b x y = cache_agree c x y

-- Two results of one record agree.
pub prints_agree : (code a b : ℕ) (t : CacheTables) (s : State) (line₁ line₂ : List ℕ) (t₁ t₂ : CacheTables) (s₁ s₂ : State) →
    DrivePrints code a b t s line₁ t₁ s₁ → DrivePrints code a b t s line₂ t₂ s₂ → DriveAgree line₁ t₁ s₁ line₂ t₂ s₂
prints_agree code a b t s line₁ line₂ t₁ t₂ s₁ s₂ p q =
    by_eq code 20
    (λ e.
    let x = p.walked e in
    let y = q.walked e in
    record {
      printed = x.2 ∙ ap (walk_text a) (reads_one buckets holds_one t.base s x.0 y.0 x.1 y.1) ∙ sym y.2;
      after = equal (x.3 ∙ sym y.3) (x.4 ∙ sym y.4);
    })
    (λ d.
    let x = p.acted d in
    let y = q.acted d in
    let g = acts_agree t s x.0 y.0 t₁ t₂ s₁ s₂ (operation_of code a b) a b x.2 y.2 in
    record { printed = x.1 ∙ g.printed ∙ sym y.1; after = g.after })
