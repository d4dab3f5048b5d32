-- The program's rooms are enough (`specs/Program.antt`).
use mathlib.Core.Path.{◌≡◌, sym, ap, ◌∙◌}
use Rattle.std.specs.Prelude.{Result, Ok, IsOk}
use mathlib.Core.List.{List}
use Prim.Native.Nat.{ℕ, ◌≤◌}
use lib.ListN.{length, take}
use Rattle.misc.specs.Parse.{Bytes}
use Rattle.misc.specs.Output.{bytes, output_of, answer_of}
use Rattle.misc.specs.declared.refusal.WriteError.{WriteError}
use Rattle.misc.proofs.Bounds.{part_bytes}
use Rattle.listing.specs.EventText.{listing, enough_input, longest_text}
use Rattle.listing.proofs.Whole.{WholeText, front_lists, text-whole}
use Rattle.gtid_list.specs.Program.{Listed}

module _ (s : List ℕ) (len : ℕ) (l l' : List ℕ) (w : Result ℕ WriteError) (ok : Bytes s) (space : longest_text ≤ length l)
    (answer : w ≡ answer_of l (bytes (listing (take len s)))) (output : l' ≡ output_of l (bytes (listing (take len s)))) where
  text : WholeText w l' (listing (take len s))
  text = text-whole l l' (take len s) w (part_bytes s 0 len ok) space answer output

  pub text-written : IsOk w
  text-written = rw text.is

  pub text-listed : enough_input ≤ length s → {n : ℕ} → w ≡ Ok n → Listed (length s) (take len s) n l'
  text-listed room {n} told =
      let same : ◌≡◌ {A = Result ℕ WriteError} (Ok text.len) (Ok n) = sym text.is ∙ told in
      let size : text.len ≡ n = cc in
      record {
        fits = rw (← size) text.fits;
        whole = λ input read. rw (← size) text.whole ∙ ap listing read ∙ front_lists (length s) input room;
      }
