-- What one record of a trace prints, and the cache after it. The operation byte names one of the cache's calls or none; the line is read
-- off what the call answered.
use Rattle.std.specs.Prelude.{cond, List, [], ◌∷◌, ◌++◌, ℕ, zero, suc, ◌+◌, ◌/◌, eqb, ltb}
use Rattle.std.proofs.Math.Option.{Option, none, some}
use Rattle.ledger.specs.Cache.{Cache, Insertion, fresh, fresh_out, old, full, Lookup, hit, miss, Least, least, nothing}
use Rattle.ledger.specs.History.{CacheCall, Insert, Get, Peek, Remove, Reset, PeekLfu, Evict, Clear, Event, inserted, got, peeked, removed, reset, peeked_lfu, evicted, cleared, measured, does}
use Rattle.io.specs.Digits.{last_digits}
use Rattle.trace.specs.declared.Word.{Word}
use Rattle.trace.specs.declared.Word.TheVariants as word
use Rattle.trace.specs.declared.Line.{Line}
use Rattle.trace.specs.declared.Line.TheVariants.{Plain, One, Two}
use Rattle.trace.specs.Words.{letters}

-- Numbers and lines as bytes

-- the most letters of a word, and the most digits of a number below 2^64
abbrev pub LETTERS : ℕ
LETTERS = 8

abbrev pub DIGITS : ℕ
DIGITS = 20

-- room for a word, a blank and a number twice, and a line feed
abbrev pub LONGEST : ℕ
LONGEST = LETTERS + (1 + DIGITS) + (1 + DIGITS) + 1

-- how many decimal digits a number has, counted up to a limit; 0 has one
abbrev pub places : ℕ → ℕ → ℕ
places zero n = zero
places (suc k) n = cond (ltb n 10) 1 (suc (places k (n / 10)))

-- plain decimal, without leading zeros
unfoldable pub decimal : ℕ → List ℕ
decimal n = last_digits 10 (places DIGITS n) n

abbrev pub BLANK : ℕ
BLANK = 32

abbrev pub FEED : ℕ
FEED = 10

-- a number behind a blank
abbrev pub spaced : ℕ → List ℕ
spaced n = (BLANK ∷ []) ++ decimal n

-- one line, ended by one line feed byte
abbrev pub text : Line → List ℕ
text (Plain w) = letters w ++ (FEED ∷ [])
text (One w n) = letters w ++ (spaced n ++ (FEED ∷ []))
text (Two w m n) = letters w ++ (spaced m ++ (spaced n ++ (FEED ∷ [])))

-- Calls and their lines

-- the call of an operation byte
abbrev pub call_of : (code key value : ℕ) → Option CacheCall
call_of code k v =
    cond (eqb code 1) (some (Insert k v))
    (cond (eqb code 2) (some (Get k))
    (cond (eqb code 3) (some (Peek k))
    (cond (eqb code 4) (some (Remove k))
    (cond (eqb code 5) (some PeekLfu)
    (cond (eqb code 6) (some (Reset k))
    (cond (eqb code 7) (some Clear)
    (cond (eqb code 8) (some Evict) none)))))))

-- `NEW`, `NEW OUT key`, `OLD value` or `FULL`
abbrev pub insert_line : Insertion → Line
insert_line fresh = Plain word.New
insert_line (fresh_out k) = One word.NewOut k
insert_line (old v) = One word.Old v
insert_line full = Plain word.Full

-- a word and a number, or `MISS`
abbrev pub lookup_line : Word → Lookup → Line
lookup_line w (hit n) = One w n
lookup_line w miss = Plain word.Miss

-- a word, a key and its value, or `NONE`
abbrev pub least_line : Word → Least → Line
least_line w (least k v) = Two w k v
least_line w nothing = Plain word.Nothing

-- what a call that was made prints
abbrev pub said : Event → Line
said (inserted k v a) = insert_line a
said (got k a) = lookup_line word.Hit a
said (peeked k a) = lookup_line word.See a
said (removed k a) = lookup_line word.Gone a
said (peeked_lfu a) = least_line word.Least a
said (reset k a) = lookup_line word.Reset a
said cleared = Plain word.Okay
said (evicted a) = least_line word.Out a
said (measured n) = One word.End n

-- one call of the cache: its line, and the cache after it
unfoldable pub tells : CacheCall → Cache → Line × Cache
tells a c = let r = does a c in (said r.0, r.1)

-- an operation that is none prints `BAD` and changes nothing
abbrev pub tells_if : Option CacheCall → Cache → Line × Cache
tells_if none c = (Plain word.Bad, c)
tells_if (some a) c = tells a c

-- a record: operation, key and value
unfoldable pub step : (code key value : ℕ) → Cache → Line × Cache
step code k v c = tells_if (call_of code k v) c

abbrev pub line_of : (code key value : ℕ) → Cache → List ℕ
line_of code k v c = text (step code k v c).0
