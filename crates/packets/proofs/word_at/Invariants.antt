-- `packets::word_at` meets its contract. The invariant: `word` is what the first `i` bytes from `at` on spell.
use mathlib.Core.Path.{◌≡◌}
use Rattle.misc.specs.Parse.{part}
use Rattle.packets.specs.Word.{big_endian}
use Rattle.packets.proofs.word_at.Given as goal

abbrev pub invariant-loop-i : goal.invariant-loop-i
invariant-loop-i l = l.word ≡ big_endian (part l.s l.at l.i)
