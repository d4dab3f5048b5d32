-- The text of a set is whole: there is room for the longest.
use Prim.Native.Nat.{ℕ, ◌≤◌}
use mathlib.Core.Path.{◌≡◌, refl, ◌∙◌}
use mathlib.Core.List.{List, ◌++◌}
use native.Mathlib.Omega.{arith}
use lib.ListN.{length, drop, length-append}
use lib.Seq.{take_at}
use borrow.Author.Tests.{le-leb}
use Rattle.misc.specs.Output.{output_of, answer_of}
use Rattle.misc.specs.declared.refusal.WriteError.{WriteError}
use Rattle.std.specs.Prelude.{Result, MatchOption}
use Rattle.std.specs.Result.{result_ok}
use Rattle.previous_gtids_event.specs.Entry.{Entry}
use Rattle.gtid_sets.specs.Lent.{Lent, form, unfit, lent_set}
use Rattle.gtid_sets.proofs.LimitLaws.{max_entries-is, max_intervals-is}
use Rattle.gtid_sets.proofs.LentLaws.{lent_is}
use Rattle.listing.specs.SetText.{set_text, listed_set}
use Rattle.listing.specs.EventText.{previous_word, longest_text}
use Rattle.listing.proofs.Longest.{longest_text-is, set-text-long}
use Rattle.gtid_follow.specs.Program.{Listed}

set-text-most : (set : List ℕ) (s : List Entry) → lent_set set ≡ form s → length (set_text previous_word s) ≤ longest_text
set-text-most set s lent =
    let is = lent_is set s lent in
    let most = set-text-long previous_word s is.keyed is.formed is.limited in
    omega (arith, max_entries-is, max_intervals-is, longest_text-is)

pub set-listed : (set l l' : List ℕ) (w : Result ℕ WriteError) → longest_text ≤ length l
    → w ≡ answer_of l (listed_set previous_word (lent_set set)) → l' ≡ output_of l (listed_set previous_word (lent_set set))
    → MatchOption (result_ok w) (lent_set set ≡ unfit) (λ len. Listed set len l')
unfolding answer_of output_of
set-listed set l l' w room answer output = go (lent_set set) refl answer output
  where
    go : (x : Lent) → lent_set set ≡ x → w ≡ answer_of l (listed_set previous_word x) → l' ≡ output_of l (listed_set previous_word x)
        → MatchOption (result_ok w) (lent_set set ≡ unfit) (λ len. Listed set len l')
    go unfit e a o = rw a e
    go (form s) e a o =
        let text = set_text previous_word s in
        let short : length text ≤ length l = omega (arith, set-text-most set s e) in
        let fits = le-leb (length text) (length l) short in
        let is : l' ≡ text ++ drop (length text) l = o ∙ rw fits in
        rw (a, fits)
        (record {
          fits = rw is (simp length-append (omega arith));
          whole = λ t lent.
              let same : s ≡ t = cc in
              rw (is, ← same) (take_at text (drop (length text) l) (length text) refl);
        })
