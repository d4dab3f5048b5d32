-- Laws of the length-encoded integers (`specs/Lenenc.antt`).
use mathlib.Core.Path.{◌≡◌, refl, ap}
use mathlib.Core.List.{List, ◌∷◌}
use Prim.Native.Nat.{ℕ, suc, ◌+◌, ◌^◌, ◌≤◌, ◌<◌}
use native.Mathlib.Omega.{arith}
use lib.ListN.{length, get_or}
use borrow.Author.Tests.{lt-ltb, le-ltb, ne_eqb}
use Rattle.misc.specs.Refusal.{ended, bad_lead}
use Rattle.misc.specs.Parse.{refuse, parsed}
use Rattle.misc.specs.Le.{le_bytes, le_at}
use Rattle.misc.proofs.ParseLaws.{byte-here, byte-gone}
use Rattle.misc.proofs.LeLaws.{length-le_bytes}
use Rattle.misc.specs.Lenenc.{led_at, lenenc_at, lenenc_bytes}

-- ---- reading, by the lead byte
pub lenenc-past : (s : List ℕ) (at : ℕ) → length s ≤ at → lenenc_at s at ≡ refuse ended
unfolding lenenc_at
lenenc-past s at h = rw (byte-gone s at h)

pub lenenc-led : (s : List ℕ) (at lead : ℕ) → at < length s → get_or s at 0 ≡ lead → lenenc_at s at ≡ led_at lead s (at + 1)
unfolding lenenc_at
lenenc-led s at lead h e = rw (byte-here s at h, e)

pub led-value : (lead : ℕ) (s : List ℕ) (at : ℕ) → lead < 251 → led_at lead s at ≡ parsed lead at
unfolding led_at
led-value lead s at h = rw (lt-ltb lead 251 h)

module _ (s : List ℕ) (at : ℕ) where
  pub led-2 : led_at 0xFC s at ≡ le_at 2 s at
  unfolding led_at
  led-2 = refl

  pub led-3 : led_at 0xFD s at ≡ le_at 3 s at
  unfolding led_at
  led-3 = refl

  pub led-8 : led_at 0xFE s at ≡ le_at 8 s at
  unfolding led_at
  led-8 = refl

pub led-none : (lead : ℕ) (s : List ℕ) (at : ℕ) → 251 ≤ lead → (lead ≡ 0xFC → ⊥) → (lead ≡ 0xFD → ⊥) → (lead ≡ 0xFE → ⊥) → led_at lead s at ≡ refuse bad_lead
unfolding led_at
led-none lead s at h n₂ n₃ n₈ = simp (le-ltb lead 251 h, ne_eqb lead 0xFC n₂, ne_eqb lead 0xFD n₃, ne_eqb lead 0xFE n₈)

-- ---- the shortest form, by the value
module _ (v : ℕ) where
  pub bytes-1 : v < 251 → lenenc_bytes v ≡ v ∷ le_bytes 0 0
  unfolding lenenc_bytes le_bytes
  bytes-1 h = simp (lt-ltb v 251 h)

  pub bytes-3 : 251 ≤ v → v < 2 ^ 16 → lenenc_bytes v ≡ 0xFC ∷ le_bytes 2 v
  unfolding lenenc_bytes
  bytes-3 l h = simp (le-ltb v 251 l, lt-ltb v (2 ^ 16) h)

  pub bytes_4 : 2 ^ 16 ≤ v → v < 2 ^ 24 → lenenc_bytes v ≡ 0xFD ∷ le_bytes 3 v
  unfolding lenenc_bytes
  bytes_4 l h = simp (le-ltb v 251 (omega arith), le-ltb v (2 ^ 16) l, lt-ltb v (2 ^ 24) h)

  pub bytes-9 : 2 ^ 24 ≤ v → lenenc_bytes v ≡ 0xFE ∷ le_bytes 8 v
  unfolding lenenc_bytes
  bytes-9 l = simp (le-ltb v 251 (omega arith), le-ltb v (2 ^ 16) (omega arith), le-ltb v (2 ^ 24) l)

  pub size-1 : v < 251 → length (lenenc_bytes v) ≡ 1
  size-1 h = rw (bytes-1 h) (ap suc (length-le_bytes 0 0))

  pub size-3 : 251 ≤ v → v < 2 ^ 16 → length (lenenc_bytes v) ≡ 3
  size-3 l h = rw (bytes-3 l h) (ap suc (length-le_bytes 2 v))

  pub size-4 : 2 ^ 16 ≤ v → v < 2 ^ 24 → length (lenenc_bytes v) ≡ 4
  size-4 l h = rw (bytes_4 l h) (ap suc (length-le_bytes 3 v))

  pub size-9 : 2 ^ 24 ≤ v → length (lenenc_bytes v) ≡ 9
  size-9 l = rw (bytes-9 l) (ap suc (length-le_bytes 8 v))
