-- The lines are put whole: each is shorter than the room that is kept for one.
use Prim.Native.Nat.{ℕ, ◌+◌, ◌-◌, ◌≤◌}
use mathlib.Core.Path.{◌≡◌, sym, ◌∙◌}
use mathlib.Core.List.{List, ◌++◌}
use native.Mathlib.Omega.{arith}
use lib.ListN.{length, take, drop, length-append, length-drop}
use lib.Seq.{take_at, drop-append-le}
use borrow.Author.Tests.{le-leb, ne_eqb}
use Rattle.misc.specs.Parse.{Bytes}
use Rattle.misc.specs.Output.{bytes, output_of, answer_of}
use Rattle.misc.specs.Put.{Puts, PutsWhereFits}
use Rattle.misc.specs.declared.put.Put.{Put}
use Rattle.misc.specs.declared.refusal.WriteError.{WriteError}
use Rattle.std.specs.Prelude.{Result, Ok, IsOk}
use Rattle.misc.proofs.ParseLaws.{split}
use Rattle.misc.proofs.OutputLaws.{put-short}
use Rattle.misc.proofs.PutLaws.{puts-fit}
use Rattle.gtid_sets.specs.Run as run
use Rattle.gtid_sets.specs.Run.{anonymous, broken, names}
use Rattle.resume_set.specs.Answers.{event_of}
use Rattle.text.specs.Lines.{refused_text}
use Rattle.listing.specs.EventText.{id_text, gtid_text, event_text}
use Rattle.listing.proofs.Longest.{gtid-text-long}
use Rattle.binlog_reader.specs.declared.Told.{Told}
use Rattle.binlog_reader.specs.declared.Told.TheVariants.{NoId, AlreadyThere, Taken, Joined}
use Rattle.binlog_reader.specs.declared.Said.{Said}
use Rattle.binlog_reader.specs.declared.Said.TheVariants.{MoreWanted, Ended, Event, Refused}
use Rattle.gtid_follow.specs.declared.lines.Lines.{Lines}
use Rattle.gtid_follow.specs.Program.{line_room, id_line, answer_line, Names, Added, Lined}

-- a place in a text, behind what was put there
pub put-within : (p : Put) (bs : List ℕ) (q : Put) → p.at ≤ length p.out.now → Puts p bs q → q.at ≤ length p.out.now
put-within p bs q h f = let l = p.out.now in
    split (p.at + length bs) (length l)
    (λ room. omega (arith, ((puts-fit f).placed room).ends))
    (λ none. omega (arith, f.at, (put-short l bs p.at none).0))

-- ---- the line of an id

-- a line of the listing is longer than its first word
gtid-text-least : (e : run.Event) → 5 ≤ length (gtid_text e)
unfolding refused_text id_text
gtid-text-least (broken r) = simp length-append (omega arith)
gtid-text-least anonymous = omega arith
gtid-text-least (names k gno) = simp length-append (omega arith)

module _ (type : ℕ) (body : List ℕ) (other : type ≡ 35 → ⊥) where
  event-text-is : event_text type body ≡ gtid_text (event_of type body)
  unfolding event_text
  event-text-is = rw (ne_eqb type 35 other)

  event-text-least : 5 ≤ length (event_text type body)
  event-text-least = rw event-text-is (gtid-text-least (event_of type body))

  event-text-most : Bytes body → length (event_text type body) ≤ 96
  event-text-most ok = rw event-text-is (gtid-text-long type body ok)

-- it stands in a text, behind the first word
pub record LineThere (type : ℕ) (body text : List ℕ) (len : ℕ) : Type 0 where
  pub least : 5 ≤ len
  pub most : len ≤ length text
  pub is : take (len - 5) (drop 5 text) ≡ id_line type body

module _ (type : ℕ) (body l l' : List ℕ) (w : Result ℕ WriteError) (other : type ≡ 35 → ⊥) (ok : Bytes body) (room : length l ≡ line_room)
    (answer : w ≡ answer_of l (bytes (event_text type body))) where
  short : length (event_text type body) ≤ length l
  short = omega (arith, event-text-most type body other ok)

  written : w ≡ Ok (length (event_text type body))
  unfolding answer_of
  written = answer ∙ rw (le-leb (length (event_text type body)) (length l) short)

  pub line-written : IsOk w
  line-written = rw written

  pub line-there : l' ≡ output_of l (bytes (event_text type body)) → {n : ℕ} → w ≡ Ok n → LineThere type body l' n
  unfolding output_of id_line
  line-there output {n} told =
      let text = event_text type body in
      let least = event-text-least type body other in
      let same : ◌≡◌ {A = Result ℕ WriteError} (Ok (length text)) (Ok n) = sym written ∙ told in
      let size : n ≡ length text = cc in
      let is : l' ≡ text ++ drop (length text) l = output ∙ rw (le-leb (length text) (length l) short) in
      record {
        least = omega arith;
        most = rw is (simp length-append (omega arith));
        is = rw (is, drop-append-le 5 text (drop (length text) l) least)
            (take_at (drop 5 text) (drop (length text) l) (n - 5) (omega (arith, length-drop 5 text)));
      }

-- ---- the line of an answer

id-line-most : (type : ℕ) (body : List ℕ) → (type ≡ 35 → ⊥) → Bytes body → length (id_line type body) ≤ 96
unfolding id_line
id-line-most type body other ok = omega (arith, length-drop 5 (event_text type body), event-text-most type body other ok)

pub answer-line-most : (told : Told) (type : ℕ) (body : List ℕ) → Names told type → Bytes body → length (answer_line told type body) ≤ line_room
answer-line-most NoId type body other ok = omega arith
answer-line-most AlreadyThere type body other ok = simp length-append (omega (arith, id-line-most type body other ok))
answer-line-most Taken type body other ok = simp length-append (omega (arith, id-line-most type body other ok))
answer-line-most Joined type body other ok = omega arith

pub line-added : (told : Told) (type : ℕ) (body : List ℕ) (p q : Put) → Names told type → Bytes body → p.at + line_room ≤ length p.out.now
    → PutsWhereFits p (answer_line told type body) q → {after : List ℕ} → after ≡ q.out.now → Added p.out.now (answer_line told type body) after q.at
line-added told type body p q other ok room fits left =
    let most = answer-line-most told type body other ok in
    let placed = fits.placed (omega arith) in
    record { start = p.at; placed = record { holds = left ∙ placed.holds; ends = placed.ends }; within = omega (arith, placed.ends) }

pub lined-within : (said : Said) (work : List ℕ) (lines : Lines) (text : List ℕ) (lines' : Lines) (text' : List ℕ)
    → Lined said work lines text lines' text' → lines.waiting ≤ length text → lines'.waiting ≤ length text
lined-within MoreWanted work lines text lines' text' (same, _) short = rw same short
lined-within Ended work lines text lines' text' (same, _) short = rw same short
lined-within (Event told type n) work lines text lines' text' (added, _) short = added.within
lined-within (Refused r n) work lines text lines' text' (same, _) short = rw same short
