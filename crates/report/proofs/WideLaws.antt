-- Numbers in two words: a number is its high word times 2^64, and its low word.
use Prim.Native.Nat.{ℕ, ◌+◌, ◌*◌, ◌^◌, ◌<◌}
use mathlib.Core.Path.{◌≡◌}
use native.Mathlib.Omega.{arith}
use Rattle.report.specs.Report.{high_word, low_word}

pub words : (n : ℕ) → high_word n * 2 ^ 64 + low_word n ≡ n
unfolding high_word low_word
words n = omega arith

pub low_small : (n : ℕ) → low_word n < 2 ^ 64
unfolding low_word
low_small n = omega arith

-- no other words make it
pub high_is : (high low n : ℕ) → low < 2 ^ 64 → high * 2 ^ 64 + low ≡ n → high ≡ high_word n
unfolding high_word
high_is high low n small e = omega arith

pub low-is : (high low n : ℕ) → low < 2 ^ 64 → high * 2 ^ 64 + low ≡ n → low ≡ low_word n
unfolding low_word
low-is high low n small e = omega arith
