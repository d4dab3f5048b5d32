-- The language of reading. Reading at a place of some bytes gives a refusal, or a value and the place after it.
use Rattle.std.specs.Prelude.{ℕ, zero, suc, ◌+◌, ◌<◌, Bool, List, [], ◌∷◌, length, take, drop, get_or, leb, Result, Ok, Err}
use Rattle.misc.specs.Pick.{pick}
use Rattle.misc.specs.Refusal.{Refusal, number, ended}
use Rattle.misc.specs.declared.Read.{Read}

pub data Parse (A : Type 0) : Type 0 where
  refuse : Refusal → Parse A
  parsed : A → ℕ → Parse A

-- one item, and then what follows it, which may depend on it
abbrev pub and_then : {A B : Type 0} → Parse A → (A → ℕ → Parse B) → Parse B
and_then (refuse r) rest = refuse r
and_then (parsed a next) rest = rest a next

-- an item whose value is taken for another
abbrev pub mapped : {A B : Type 0} → (A → B) → Parse A → Parse B
mapped f (refuse r) = refuse r
mapped f (parsed a next) = parsed (f a) next

-- an item that is read whole before it is judged
abbrev pub judged : {A : Type 0} → (A → Bool) → Refusal → Parse A → Parse A
judged good r (refuse x) = refuse x
judged good r (parsed a next) = pick (good a) (parsed a next) (refuse r)

-- what is judged before anything is read
abbrev pub provided : {A : Type 0} → Bool → Refusal → Parse A → Parse A
provided good r p = pick good p (refuse r)

-- n items one after another
unfoldable pub many : {A : Type 0} → (ℕ → Parse A) → ℕ → ℕ → Parse (List A)
many item zero at = parsed [] at
many item (suc n) at = and_then (item at) (λ a next. and_then (many item n next) (λ rest last. parsed (a ∷ rest) last))

-- ---- bytes

-- bytes, and no other numbers
abbrev pub Bytes : List ℕ → Type 0
Bytes s = (i : ℕ) → get_or s i 0 < 256

-- n bytes of s from a place on
abbrev pub part : List ℕ → ℕ → ℕ → List ℕ
part s at n = take n (drop at s)

-- the next n bytes: all of them lie in s
unfoldable pub bytes_at : ℕ → List ℕ → ℕ → Parse (List ℕ)
bytes_at n s at = pick (leb (at + n) (length s)) (parsed (part s at n) (at + n)) (refuse ended)

-- the next byte
unfoldable pub byte_at : List ℕ → ℕ → Parse ℕ
byte_at s at = mapped (λ bs. get_or bs 0 0) (bytes_at 1 s at)

-- ---- answers

-- a refusal's number; 0 where there is none
abbrev pub refusal_of : {A : Type 0} → Parse A → ℕ
refusal_of (refuse r) = number r
refusal_of (parsed a next) = 0

-- the same of an answer
abbrev pub refusal_in : {A : Type 0} → Result A Refusal → ℕ
refusal_in (Ok a) = 0
refusal_in (Err r) = number r

-- the answer of a reader: the refusal, or what it says of the item and of the place behind it
abbrev pub answered : {A B : Type 0} → (A → ℕ → B) → Parse A → Result B Refusal
answered say (refuse r) = Err r
answered say (parsed a next) = Ok (say a next)

-- where it says both as they are
abbrev pub read_of : {A : Type 0} → Parse A → Result (Read A) Refusal
read_of p = answered (λ a next. record { value = a; next = next }) p

-- what was read, or another value where nothing was
abbrev pub parsed_or : {A : Type 0} → A → Parse A → A
parsed_or other (refuse r) = other
parsed_or other (parsed a next) = a
