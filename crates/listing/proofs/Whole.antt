-- What the listing program has room for is enough: the front of an input tells the whole listing (`front_lists`), and in a room for the
-- longest text the whole text stands (`text-whole`).
use mathlib.Core.Path.{◌≡◌, refl, sym, ap, ◌∙◌}
use mathlib.Core.List.{List, [], ◌∷◌, ◌++◌}
use Prim.Native.Nat.{ℕ, zero, suc, ◌≤◌, ◌<◌}
use native.Mathlib.Omega.{arith}
use lib.Dec.{eqb}
use lib.ListN.{length, take, drop, length-append}
use lib.Seq.{take_all, take_at, length-take-le}
use borrow.Author.Tests.{le-leb}
use Rattle.std.specs.Prelude.{Result, Ok}
use Rattle.misc.specs.Refusal.{number, too_long}
use Rattle.misc.specs.declared.refusal.WriteError.{WriteError}
use Rattle.misc.specs.Parse.{refuse, Bytes}
use Rattle.misc.specs.Body.{body_limit}
use Rattle.misc.specs.Output.{bytes, output_of, answer_of}
use Rattle.misc.proofs.BodyLaws.{body-too-long}
use Rattle.misc.proofs.ParseLaws.{split as below}
use Rattle.packets.proofs.Tests.{split}
use Rattle.previous_gtids_event.specs.Previous.{previous, entries_in}
use Rattle.gtid_event_read.specs.Read.{named}
use Rattle.gtid_event_read.proofs.ReadLaws.{seen-too-long}
use Rattle.gtid_sets.specs.Run.{broken}
use Rattle.resume_set.specs.Answers.{event_of}
use Rattle.text.specs.Lines.{refused_text}
use Rattle.listing.specs.EventText.{event_text, listing, enough_input, longest_text}
use Rattle.listing.proofs.Longest.{longest_text_lem}

pub enough_input-is : enough_input ≡ 65538
unfolding enough_input body_limit
enough_input-is = refl

-- ---- the front of an input

module _ (type : ℕ) (body : List ℕ) (over : 65536 < length body) where
  event-too-long : event_of type body ≡ broken too_long
  unfolding event_of named
  event-too-long = rw (seen-too-long type body over)

  previous-too-long : previous body ≡ refuse too_long
  unfolding previous
  previous-too-long = body-too-long body (entries_in body) over

  too-long-text : event_text type body ≡ refused_text (number too_long)
  unfolding event_text
  too-long-text = split (eqb type 35) (λ h. rw (h, previous-too-long)) (λ h. rw (h, event-too-long))

-- what stands behind it changes nothing
pub front_lists : (n : ℕ) (input : List ℕ) → enough_input ≤ n → listing (take n input) ≡ listing input
front_lists n [] room = ap listing (take_all n [] (omega arith))
front_lists zero (type ∷ body) room = absurd (omega (arith, enough_input-is))
front_lists (suc n) (type ∷ body) room =
    below (length body) 65536
    (λ short. ap (event_text type) (take_all n body (omega (arith, enough_input-is))))
    (λ over. too-long-text type (take n body) (longer over) ∙ sym (too-long-text type body over))
  where
    longer : 65536 < length body → 65536 < length (take n body)
    longer over =
        below (length body) n
        (λ all. rw (take_all n body all) over)
        (λ some. let is = length-take-le n body (omega arith) in omega (arith, enough_input-is))

-- ---- the room for a text

-- it was written, and stands whole at the front of what is there now
pub record WholeText (answer : Result ℕ WriteError) (l' text : List ℕ) : Type 0 where
  pub len : ℕ
  pub is : answer ≡ Ok len
  pub fits : len ≤ length l'
  pub whole : take len l' ≡ text

pub text-whole : (l l' input : List ℕ) (w : Result ℕ WriteError) → Bytes input → longest_text ≤ length l
    → w ≡ answer_of l (bytes (listing input)) → l' ≡ output_of l (bytes (listing input)) → WholeText w l' (listing input)
unfolding answer_of output_of
text-whole l l' input w ok room answer output =
    let short : length (listing input) ≤ length l = omega (arith, longest_text_lem input ok) in
    let is : l' ≡ listing input ++ drop (length (listing input)) l = output ∙ rw (le-leb _ _ short) in
    record {
      len = length (listing input);
      is = answer ∙ rw (le-leb _ _ short);
      fits = rw is (simp length-append (omega arith));
      whole = rw is (take_at (listing input) (drop (length (listing input)) l) (length (listing input)) refl);
    }
