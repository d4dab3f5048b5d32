-- A form of an integer that stands somewhere is read there (`specs/Forms.antt`).
use Prim.Native.Nat.{ℕ, zero, suc, ◌+◌, ◌-◌, ◌*◌, ◌/◌, ◌%◌, ◌^◌, ◌≤◌, ◌<◌}
use mathlib.Core.Path.{◌≡◌, sym, ap, ◌∙◌, refl}
use mathlib.Core.List.{List, [], ◌∷◌, ◌++◌}
use native.Mathlib.Nat.{pow-suc}
use native.Mathlib.Omega.{arith}
use lib.Pow.{pow_pos, mod-pow-add}
use lib.ListN.{length, get_or}
use Rattle.misc.specs.Parse.{parsed, part}
use Rattle.misc.specs.Le.{le_of, le_at}
use Rattle.misc.specs.Varlen.{trailing_ones, varlen_at}
use Rattle.misc.specs.Lenenc.{led_at, lenenc_at}
use Rattle.misc.specs.Forms.{Number, Ones, Form, LenencForm}
use Rattle.misc.proofs.LeLaws.{le-here}
use Rattle.misc.proofs.VarlenLaws.{varlen-narrow, varlen-nine}
use Rattle.misc.proofs.LenencLaws.{lenenc-led, led-value, led-2, led-3, led-8}
use Rattle.misc.proofs.Places.{From, from-room, from_next, from-part, from_first}

-- ---- trailing ones

pub ones-are : (k b t : ℕ) → t < k → Ones t b → trailing_ones k b ≡ t
unfolding trailing_ones
ones-are zero b t h e = absurd (omega arith)
ones-are (suc k) b zero h e =
    let low : b % 2 ≡ 0 = e in
    rw low
ones-are (suc k) b (suc t) h e =
    let same : suc t + 1 ≡ t + 1 + 1 = omega arith in
    let parts : b % 2 ^ (t + 1 + 1) ≡ b / 2 % 2 ^ (t + 1) * 2 + b % 2 = mod-pow-add b (t + 1) 1 in
    let whole : b % 2 ^ (t + 1 + 1) ≡ 2 ^ suc t - 1 = rw same at e in
    let pos : 0 < 2 ^ t = pow_pos t in
    let odd : b % 2 ≡ 1 = omega (arith, pow-suc 2 t) in
    let rest : b / 2 % 2 ^ (t + 1) ≡ 2 ^ t - 1 = omega (arith, pow-suc 2 t) in
    rw (odd, ones-are k (b / 2) t (omega arith) rest)

-- ---- variable-length integers

pub form-some : {v : ℕ} {bs : List ℕ} → Form v bs → 1 ≤ length bs
form-some (Form.few t first more small ones size value) = omega arith
form-some (Form.nine more size value) = omega arith

pub form-reads : (s : List ℕ) (at v : ℕ) (bs rest : List ℕ) → Form v bs → From s at (bs ++ rest) → varlen_at s at ≡ parsed v (at + length bs)
form-reads s at v bs rest (Form.few t first more small ones size value) h =
    let (is, inside) = from_first s at first (more ++ rest) h in
    let long : t + 1 ≡ length (first ∷ more) = omega arith in
    let this : part s at (t + 1) ≡ first ∷ more = from-part s at (first ∷ more) rest h (t + 1) long in
    let count : t ≡ trailing_ones 8 (get_or s at 0) = sym (ap (trailing_ones 8) is ∙ ones-are 8 first t small ones) in
    let room : at + (t + 1) ≤ length s = omega (arith, from-room s at (first ∷ more) rest h) in
    let end : at + (t + 1) ≡ at + length (first ∷ more) = ap (λ (n : ℕ). at + n) long in
    varlen-narrow s at t inside count room small
    ∙ ap (λ (x : List ℕ). parsed (le_of x / 2 ^ (t + 1)) (at + (t + 1))) this
    ∙ ap (λ (x : ℕ). parsed x (at + (t + 1))) value
    ∙ ap (parsed v) end
form-reads s at v bs rest (Form.nine more size value) h =
    let (is, inside) = from_first s at 0xFF (more ++ rest) h in
    let behind : From s (at + 1) (more ++ rest) = from_next s at (0xFF ∷ []) (more ++ rest) h in
    let this : part s (at + 1) 8 ≡ more = from-part s (at + 1) more rest behind 8 (sym size) in
    let count : 8 ≡ trailing_ones 8 (get_or s at 0) = rw is (unfold trailing_ones in refl) in
    let end : at + 9 ≡ at + length (0xFF ∷ more) = omega arith in
    varlen-nine s at 8 inside count (omega (arith, from-room s (at + 1) more rest behind)) refl
    ∙ ap (λ (x : List ℕ). parsed (le_of x) (at + 9)) this
    ∙ ap (λ (x : ℕ). parsed x (at + 9)) value
    ∙ ap (parsed v) end

-- ---- fixed and length-encoded integers

pub lenenc-some : (v : ℕ) (bs : List ℕ) → LenencForm v bs → 1 ≤ length bs
lenenc-some v bs (LenencForm.itself low) = omega arith
lenenc-some v bs (LenencForm.led_by_fc more size value) = omega arith
lenenc-some v bs (LenencForm.led_by_fd more size value) = omega arith
lenenc-some v bs (LenencForm.led_by_fe more size value) = omega arith

module _ (s : List ℕ) where
  pub number-reads : (w at v : ℕ) (bs rest : List ℕ) → Number w v bs → From s at (bs ++ rest) → le_at w s at ≡ parsed v (at + w)
  number-reads w at v bs rest n h =
      let room : at + w ≤ length s = omega (arith, from-room s at bs rest h, n.long) in
      let these : part s at w ≡ bs = from-part s at bs rest h w (sym n.long) in
      le-here w s at room ∙ ap (λ (x : ℕ). parsed x (at + w)) (ap le_of these ∙ n.spells)

  led-reads : (lead n at v : ℕ) (more rest : List ℕ) → length more ≡ n → le_of more ≡ v → From s at (lead ∷ more ++ rest)
      → led_at lead s (at + 1) ≡ le_at n s (at + 1) → lenenc_at s at ≡ parsed v (at + length (lead ∷ more))
  led-reads lead n at v more rest size value h law =
      let (first, inside) = from_first s at lead (more ++ rest) h in
      let behind : From s (at + 1) (more ++ rest) = from_next s at (lead ∷ []) (more ++ rest) h in
      let end : at + 1 + n ≡ at + length (lead ∷ more) = omega arith in
      lenenc-led s at lead inside first ∙ law ∙ number-reads n (at + 1) v more rest (record { long = size; spells = value }) behind ∙ ap (parsed v) end

  pub lenenc-reads : (at v : ℕ) (bs rest : List ℕ) → LenencForm v bs → From s at (bs ++ rest) → lenenc_at s at ≡ parsed v (at + length bs)
  lenenc-reads at v bs rest (LenencForm.itself low) h =
      let (first, inside) = from_first s at v rest h in
      lenenc-led s at v inside first ∙ led-value v s (at + 1) low
  lenenc-reads at v bs rest (LenencForm.led_by_fc more size value) h = led-reads 0xFC 2 at v more rest size value h (led-2 s (at + 1))
  lenenc-reads at v bs rest (LenencForm.led_by_fd more size value) h = led-reads 0xFD 3 at v more rest size value h (led-3 s (at + 1))
  lenenc-reads at v bs rest (LenencForm.led_by_fe more size value) h = led-reads 0xFE 8 at v more rest size value h (led-8 s (at + 1))
