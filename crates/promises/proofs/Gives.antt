-- What a refusal of a part, or of a whole made of parts, says: every number that it refuses with is one for which P holds. A whole's later parts are
-- told what was read before them.
use Prim.Native.Nat.{ℕ, zero, suc, ◌+◌, ◌≤◌, ◌<◌}
use mathlib.Core.Path.{◌≡◌, refl, sym, ap, ◌∙◌}
use mathlib.Core.Bool.{Bool, true, false}
use mathlib.Core.List.{List, [], ◌∷◌}
use mathlib.Core.Logic.{◌⊎◌, inl, inr}
use native.Mathlib.Omega.{arith}
use lib.Dec.{eqb, leb, ltb}
use lib.ListN.{length, get_or}
use borrow.Author.Tests.{ltb-false, leb-false, eqb-false}
use Rattle.misc.specs.Pick.{pick}
use Rattle.misc.specs.declared.refusal.Refusal.{Refusal}
use Rattle.misc.specs.Refusal.{number, ended, bad_lead}
use Rattle.misc.specs.Parse.{Parse, refuse, parsed, and_then, mapped, judged, many, part, bytes_at, byte_at}
use Rattle.misc.specs.Le.{le_of, le_at}
use Rattle.misc.specs.Varlen.{trailing_ones, varlen_at}
use Rattle.misc.specs.Lenenc.{led_at, lenenc_at}
use Rattle.misc.proofs.ParseLaws.{split, never, then-parsed, mapped-parsed, bytes-parsed, byte-parsed}
use Rattle.misc.proofs.Walk.{ahead, many-none, many-next}
use Rattle.promises.proofs.Stops.{plain, varlen, lenenc, Ends}

abbrev pub Gives : {A : Type 0} → (ℕ → Type 0) → Parse A → Type 0
Gives P p = (r : Refusal) → p ≡ refuse r → P (number r)

-- a number of so many bytes that was read
pub le-parsed : (n : ℕ) (s : List ℕ) (at v next : ℕ) → le_at n s at ≡ parsed v next → (at + n ≤ length s) × (v ≡ le_of (part s at n)) × (next ≡ at + n)
unfolding le_at
le-parsed n s at v next e =
    let (bs, read, spelt) = mapped-parsed le_of (bytes_at n s at) v next e in
    let (room, these, to) = bytes-parsed n s at bs next read in
    (room, spelt ∙ ap le_of (sym these), sym to)

module _ (P : ℕ → Type 0) where
  -- ---- the language of reading

  pub refuse-gives : {A : Type 0} (x : Refusal) → P (number x) → Gives {A = A} P (refuse x)
  refuse-gives x h r e = let same : x ≡ r = cc in rw (← same) h

  pub parsed-gives : {A : Type 0} (a : A) (next : ℕ) → Gives P (parsed a next)
  parsed-gives a next r e = never (sym e)

  pub then-gives : {A B : Type 0} (p : Parse A) (f : A → ℕ → Parse B) → Gives P p → ((a : A) (next : ℕ) → p ≡ parsed a next → Gives P (f a next))
      → Gives P (and_then p f)
  then-gives (refuse x) f h k r e = let same : x ≡ r = cc in h r (ap refuse same)
  then-gives (parsed a next) f h k r e = k a next refl r e

  -- where the place behind the first part is known
  pub then-at-gives : {A B : Type 0} (p : Parse A) (f : A → ℕ → Parse B) (to : ℕ) → Gives P p → ((a : A) (next : ℕ) → p ≡ parsed a next → next ≡ to)
      → ((a : A) → p ≡ parsed a to → Gives P (f a to)) → Gives P (and_then p f)
  then-at-gives p f to h is k =
      then-gives p f h (λ a next e. let same : next ≡ to = is a next e in rw same (k a (rw same at e)))

  pub mapped-gives : {A B : Type 0} (f : A → B) (p : Parse A) → Gives P p → Gives P (mapped f p)
  mapped-gives f (refuse x) h r e = let same : x ≡ r = cc in h r (ap refuse same)
  mapped-gives f (parsed a next) h r e = never (sym e)

  pub pick_gives : {A : Type 0} (t : Bool) (p q : Parse A) → (t ≡ true → Gives P p) → (t ≡ false → Gives P q) → Gives P (pick t p q)
  pick_gives true p q h k = h refl
  pick_gives false p q h k = k refl

  pub judged-gives : {A : Type 0} (good : A → Bool) (x : Refusal) (p : Parse A) → Gives P p
      → ((a : A) (next : ℕ) → p ≡ parsed a next → good a ≡ false → P (number x)) → Gives P (judged good x p)
  judged-gives good x (refuse y) h k r e = h r e
  judged-gives good x (parsed v next) h k r e =
      pick_gives (good v) (parsed v next) (refuse x) (λ _. parsed-gives v next) (λ bad. refuse-gives x (k v next refl bad)) r e

  -- an item is told how many were read before it
  pub many-gives : {A : Type 0} (item : ℕ → Parse A) (n at : ℕ)
      → ((i to : ℕ) (before : List A) → i < n → many item i at ≡ parsed before to → Gives P (item to)) → Gives P (many item n at)
  unfolding many
  many-gives item zero at h = parsed-gives [] at
  many-gives item (suc n) at h =
      then-gives (item at) _ (h 0 at [] (omega arith) (many-none item at)) (λ a next e.
      then-gives (many item n next) _
      (many-gives item n next (λ i to before below f. h (suc i) to (a ∷ before) (omega arith) (many-next item i at a next e ∙ ap (ahead a) f)))
      (λ rest last _. parsed-gives (a ∷ rest) last))

  -- ---- bytes and integers
  module _ (s : List ℕ) where
    pub bytes_gives : (n at : ℕ) → (Ends (plain n) s at → P 1) → Gives P (bytes_at n s at)
    unfolding bytes_at
    bytes_gives n at h =
        pick_gives (leb (at + n) (length s)) _ _ (λ _. parsed-gives (part s at n) (at + n))
        (λ over. refuse-gives ended (h (leb-false (at + n) (length s) over)))

    pub byte-gives : (at : ℕ) → (Ends (plain 1) s at → P 1) → Gives P (byte_at s at)
    unfolding byte_at
    byte-gives at h = mapped-gives _ (bytes_at 1 s at) (bytes_gives 1 at h)

    pub le-gives : (n at : ℕ) → (Ends (plain n) s at → P 1) → Gives P (le_at n s at)
    unfolding le_at
    le-gives n at h = mapped-gives _ (bytes_at n s at) (bytes_gives n at h)

    pub then-le-gives : {B : Type 0} (n at : ℕ) (f : ℕ → ℕ → Parse B) → (Ends (plain n) s at → P 1)
        → ((v : ℕ) → le_at n s at ≡ parsed v (at + n) → Gives P (f v (at + n))) → Gives P (and_then (le_at n s at) f)
    then-le-gives n at f h k = then-at-gives (le_at n s at) f (at + n) (le-gives n at h) (λ v next e. (le-parsed n s at v next e).2) k

    pub varlen-gives : (at : ℕ) → (Ends varlen s at → P 1) → Gives P (varlen_at s at)
    unfolding varlen_at
    varlen-gives at h = then-gives (byte_at s at) _ (byte-gives at (λ out. h (omega arith))) (λ first after e.
        mapped-gives _ (bytes_at (trailing_ones 8 first + 1) s at) (bytes_gives _ at (λ over. h (rw (byte-parsed s at first after e).1 at over))))

    -- a length and so many bytes, which are judged when they are all there
    pub sized-gives : (good : List ℕ → Bool) (x : Refusal) (at : ℕ) → (Ends varlen s at → P 1)
        → ((n to : ℕ) → varlen_at s at ≡ parsed n to → Ends (plain n) s to → P 1)
        → ((n to : ℕ) → varlen_at s at ≡ parsed n to → to + n ≤ length s → good (part s to n) ≡ false → P (number x))
        → Gives P (judged good x (and_then (varlen_at s at) (λ n to. bytes_at n s to)))
    sized-gives good x at no_length no_bytes bad =
        judged-gives good x _ (then-gives (varlen_at s at) _ (varlen-gives at no_length) (λ n to e. bytes_gives n to (no_bytes n to e))) (λ bs next e broken.
        let (n, to, told, read) = then-parsed (varlen_at s at) (λ n to. bytes_at n s to) bs next e in
        let (room, these, _) = bytes-parsed n s to bs next read in
        bad n to told room (rw these broken))

    module _ (at : ℕ) (byte : get_or s at 0 < 256) (h : Ends lenenc s at → P 1) (k : at < length s → (get_or s at 0 ≡ 0xFB) ⊎ (get_or s at 0 ≡ 0xFF) → P 10) where
      led-gives : at < length s → Gives P (led_at (get_or s at 0) s (at + 1))
      unfolding led_at
      led-gives inside =
          pick_gives (ltb (get_or s at 0) 251) _ _ (λ _. parsed-gives (get_or s at 0) (at + 1)) (λ big.
          pick_gives (eqb (get_or s at 0) 0xFC) _ _ (λ c. le-gives 2 (at + 1) (λ over. h (rw c (omega arith)))) (λ c.
          pick_gives (eqb (get_or s at 0) 0xFD) _ _ (λ d. le-gives 3 (at + 1) (λ over. h (rw (c, d) (omega arith)))) (λ d.
          pick_gives (eqb (get_or s at 0) 0xFE) _ _ (λ f. le-gives 8 (at + 1) (λ over. h (rw (c, d, f) (omega arith)))) (λ f.
          refuse-gives bad_lead
          (k inside (either (get_or s at 0) byte (ltb-false _ _ big) (eqb-false _ _ c) (eqb-false _ _ d) (eqb-false _ _ f)))))))
        where
          either : (b : ℕ) → b < 256 → 251 ≤ b → (b ≡ 0xFC → ⊥) → (b ≡ 0xFD → ⊥) → (b ≡ 0xFE → ⊥) → (b ≡ 0xFB) ⊎ (b ≡ 0xFF)
          either b l g c d f = split b 0xFB (λ low. inl (omega arith)) (λ high. inr (omega (arith, c, d, f)))

      pub lenenc-gives : Gives P (lenenc_at s at)
      unfolding lenenc_at
      lenenc-gives =
          then-gives (byte_at s at) _ (byte-gives at (λ out. h (omega arith))) (λ lead after e.
          let (inside, is, to) = byte-parsed s at lead after e in
          rw (is, to) (led-gives inside))
