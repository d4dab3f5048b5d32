-- Laws of gnos and of intervals of them.
use Prim.Native.Nat.{ℕ, ◌-◌, ◌^◌, ◌≤◌, ◌<◌}
use mathlib.Core.Path.{◌≡◌, refl}
use mathlib.Core.Bool.{true, ◌&&◌}
use lib.Dec.{leb, ltb}
use borrow.Author.Tests.{le-leb, lt-ltb}
use Rattle.packets.specs.Gno.{gno_top, is_gno, interval, is_interval}
use Rattle.packets.proofs.Tests.{and-true, tests}

pub gno_top-is : gno_top ≡ 2 ^ 63 - 1
unfolding gno_top
gno_top-is = refl

pub gno-says : (n : ℕ) → is_gno n ≡ true → (1 ≤ n) × (n < gno_top)
gno-says n h = let p = and-true (leb 1 n) (ltb n gno_top) h in (omega tests, omega tests)

pub interval-says : (s e : ℕ) → is_interval (interval s e) ≡ true → (1 ≤ s) × (s < e) × (e ≤ gno_top)
interval-says s e h =
    let p = and-true (leb 1 s && ltb s e) (leb e gno_top) h in
    let q = and-true (leb 1 s) (ltb s e) p.0 in
    (omega tests, omega tests, omega tests)

pub interval-from : (s e : ℕ) → 1 ≤ s → s < e → e ≤ gno_top → is_interval (interval s e) ≡ true
interval-from s e h k l = rw (le-leb 1 s h, lt-ltb s e k, le-leb e gno_top l)
