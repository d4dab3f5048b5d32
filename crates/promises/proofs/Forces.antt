-- A case of the table forces its number: the language of reading, and integers. (`Gives` goes the other way.)
use Prim.Native.Nat.{ℕ, zero, suc, ◌+◌, ◌<◌}
use mathlib.Core.Path.{◌≡◌, refl, sym, ◌∙◌}
use mathlib.Core.List.{List}
use mathlib.Core.Logic.{◌⊎◌, inl, inr}
use native.Mathlib.Omega.{arith}
use lib.Dec.{eqb}
use lib.ListN.{length, get_or}
use borrow.Author.Tests.{eqb-true}
use Rattle.misc.specs.declared.refusal.Refusal.{Refusal}
use Rattle.misc.specs.Refusal.{number, ended, bad_lead}
use Rattle.misc.specs.Parse.{Parse, refuse, parsed, many}
use Rattle.misc.specs.Output.{Output, refused}
use Rattle.misc.specs.Varlen.{trailing_ones, varlen_at}
use Rattle.misc.specs.Lenenc.{led_at, lenenc_at}
use Rattle.misc.proofs.ParseLaws.{split, never, then-parsed}
use Rattle.misc.proofs.LeLaws.{le-gone}
use Rattle.misc.proofs.VarlenLaws.{varlen-past, varlen-cut}
use Rattle.misc.proofs.LenencLaws.{lenenc-past, lenenc-led, led-2, led-3, led-8, led-none}
use Rattle.packets.proofs.Tests as tests
use Rattle.promises.proofs.Stops.{varlen, lenenc, Ends}

-- ---- the language of reading and writing

-- reading refuses with this number
abbrev pub Refuses : {A : Type 0} → Parse A → ℕ → Type 0
Refuses p n = (r : Refusal) × (p ≡ refuse r) × (number r ≡ n)

-- so does a call that writes
abbrev pub WriterRefuses : Output → ℕ → Type 0
WriterRefuses o n = (r : Refusal) × (o ≡ refused r) × (number r ≡ n)

pub is-refused : {A : Type 0} {p : Parse A} (r : Refusal) → p ≡ refuse r → Refuses p (number r)
is-refused r e = (r, e, refl)

-- what is refused with a part's refusal
pub same-refused : {A B : Type 0} {p : Parse A} {q : Parse B} {n : ℕ} → Refuses p n → ((r : Refusal) → p ≡ refuse r → q ≡ refuse r) → Refuses q n
same-refused (r, e, is) f = (r, f r e, is)

-- and then nothing is read
pub refused-not-read : {A : Type 0} {p : Parse A} {n : ℕ} {a : A} {next : ℕ} → Refuses p n → p ≡ parsed a next → ⊥
refused-not-read (r, e, is) f = never (sym e ∙ f)

-- an item that is refused, behind some that were read
pub many-stops : {A : Type 0} (item : ℕ → Parse A) (i n at : ℕ) {before : List A} {to : ℕ} {x : Refusal} → i < n → many item i at ≡ parsed before to
    → item to ≡ refuse x → many item n at ≡ refuse x
unfolding many
many-stops item i zero at h p e = absurd (omega arith)
many-stops item zero (suc n) at {to = to} h p e = let here : at ≡ to = cc in rw (here, e)
many-stops item (suc i) (suc n) at {before} {to} {x} h p e =
    let (a, next, one, rest) = then-parsed (item at) _ before to p in
    let (others, last, q, r) = then-parsed (many item i next) _ before to rest in
    let same : last ≡ to = cc in
    let stop : many item n next ≡ refuse x = many-stops item i n next (omega arith) q (rw same e) in
    rw (one, stop)

-- ---- integers that are cut off
module _ (s : List ℕ) where
  pub varlen-ends : (at : ℕ) → Ends varlen s at → varlen_at s at ≡ refuse ended
  varlen-ends at h = split (length s) at (λ past. varlen-past s at past) (λ inside. varlen-cut s at (trailing_ones 8 (get_or s at 0)) inside refl h)

  pub lenenc-ends : (at : ℕ) → Ends lenenc s at → lenenc_at s at ≡ refuse ended
  lenenc-ends at h = split (length s) at (λ past. lenenc-past s at past) (λ inside.
      lenenc-led s at (get_or s at 0) inside refl ∙ led inside)
    where
      led : at < length s → led_at (get_or s at 0) s (at + 1) ≡ refuse ended
      led inside =
          tests.split (eqb (get_or s at 0) 0xFC)
          (λ c. rw (eqb-true (get_or s at 0) 0xFC c, led-2) (let over : length s < at + (1 + 2) = rw c at h in le-gone 2 s (at + 1) (omega arith))) (λ c.
          tests.split (eqb (get_or s at 0) 0xFD)
          (λ d. rw (eqb-true (get_or s at 0) 0xFD d, led-3) (let over : length s < at + (1 + 3) = rw (c, d) at h in le-gone 3 s (at + 1) (omega arith))) (λ d.
          tests.split (eqb (get_or s at 0) 0xFE)
          (λ f. rw (eqb-true (get_or s at 0) 0xFE f, led-8) (let over : length s < at + (1 + 8) = rw (c, d, f) at h in le-gone 8 s (at + 1) (omega arith))) (λ f.
          let over : length s < at + (1 + 0) = rw (c, d, f) at h in
          absurd (omega arith))))

  pub lead-refused : (at : ℕ) → at < length s → (get_or s at 0 ≡ 0xFB) ⊎ (get_or s at 0 ≡ 0xFF) → lenenc_at s at ≡ refuse bad_lead
  lead-refused at inside (inl e) = lenenc-led s at 0xFB inside e
      ∙ led-none 0xFB s (at + 1) (omega arith) (λ q. omega arith) (λ q. omega arith) (λ q. omega arith)
  lead-refused at inside (inr e) = lenenc-led s at 0xFF inside e
      ∙ led-none 0xFF s (at + 1) (omega arith) (λ q. omega arith) (λ q. omega arith) (λ q. omega arith)
