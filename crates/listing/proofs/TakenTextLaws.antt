-- Laws of the text of a body that is taken in: the set that it becomes has room in a buffer for the longest set, and is lent back.
use mathlib.Core.Path.{◌≡◌, refl, sym, ap, ◌∙◌}
use mathlib.Core.List.{List, ◌++◌}
use Prim.Native.Nat.{ℕ, ◌≤◌}
use native.Mathlib.Omega.{arith}
use lib.ListN.{length, take, drop, length-append}
use lib.Seq.{take-append_seam}
use borrow.Author.Tests.{le-leb}
use Rattle.std.specs.Prelude.{Result, Ok, Err}
use Rattle.misc.specs.Refusal.{bad_gno, error_number}
use Rattle.misc.specs.declared.refusal.Refusal.{Refusal}
use Rattle.misc.specs.declared.refusal.WriteError.{WriteError}
use Rattle.misc.specs.declared.refusal.WriteError.TheVariants.{Refused}
use Rattle.misc.specs.Parse.{Parse, refuse, parsed}
use Rattle.misc.specs.Output.{refused, bytes, output_of, answer_of}
use Rattle.misc.proofs.ParseLaws.{ok-err}
use Rattle.misc.proofs.OutputLaws.{output-refused}
use Rattle.packets.proofs.Tests.{split}
use Rattle.previous_gtids_event.specs.Entry.{Entry}
use Rattle.previous_gtids_event.specs.Previous.{previous}
use Rattle.previous_gtids_event.specs.Rewrite.{body_bytes}
use Rattle.gtid_sets.specs.TakeIn.{lawful, taken_set}
use Rattle.gtid_sets.specs.Limits.{longest_set}
use Rattle.gtid_sets.specs.Lent.{form, lent_set}
use Rattle.gtid_sets.proofs.FormLaws.{lawful-holds}
use Rattle.gtid_sets.proofs.LimitLaws.{limits-cases}
use Rattle.gtid_sets.proofs.LentLaws.{lent-take_in, lent-short}
use Rattle.set_join.specs.Answers.{taken_in}
use Rattle.text.specs.Lines.{refused_text}
use Rattle.listing.specs.SetText.{set_text, listed_set}
use Rattle.listing.specs.EventText.{previous_word, lent_text, taken_text}

-- a body is refused, or becomes a set that is lent back
pub taken-cases : {P : Type 0} (body : List ℕ) → ((r : Refusal) → taken_in (previous body) ≡ refused r → P)
    → ((s : List Entry) → taken_in (previous body) ≡ bytes (body_bytes s) → lent_set (body_bytes s) ≡ form s → P) → P
taken-cases {P} body bad good = go (previous body) refl
  where
    go : (p : Parse (List Entry)) → previous body ≡ p → P
    go (refuse r) e = bad r (ap taken_in e)
    go (parsed es next) e =
        split (lawful es)
        (λ h.
        limits-cases (taken_set es) (λ f. good (taken_set es) (ap taken_in e ∙ rw (h, f)) (lent-take_in body es next e (lawful-holds es h) f))
        (λ r f _. bad r (ap taken_in e ∙ rw (h, f))))
        (λ h. bad bad_gno (ap taken_in e ∙ rw h))

-- the text of a set that was taken in
pub taken-text : (body : List ℕ) (s : List Entry) → taken_in (previous body) ≡ bytes (body_bytes s) → lent_set (body_bytes s) ≡ form s
    → taken_text (taken_in (previous body)) ≡ set_text previous_word s
taken-text body s e lent = ap taken_text e ∙ ap lent_text lent

-- ---- taken in into a buffer

-- it holds the set, and this is how long it is
pub record TakenSet (body set : List ℕ) (len : ℕ) : Type 0 where
  pub entries : List Entry
  pub is : taken_in (previous body) ≡ bytes (body_bytes entries)
  pub lent : lent_set (body_bytes entries) ≡ form entries
  pub inside : len ≤ length set
  pub front : take len set ≡ body_bytes entries

pub taken-listed : (body set : List ℕ) (len : ℕ) → TakenSet body set len
    → listed_set previous_word (lent_set (take len set)) ≡ bytes (taken_text (taken_in (previous body)))
taken-listed body set len t =
    ap (λ x. listed_set previous_word (lent_set x)) t.front ∙ ap (listed_set previous_word) t.lent
    ∙ sym (ap bytes (taken-text body t.entries t.is t.lent))

answer-fits : (l bs : List ℕ) → length bs ≤ length l → answer_of l (bytes bs) ≡ Ok (length bs)
unfolding answer_of
answer-fits l bs h = rw (le-leb (length bs) (length l) h)

output-there : (l bs : List ℕ) → length bs ≤ length l → output_of l (bytes bs) ≡ bs ++ drop (length bs) l
unfolding output_of
output-there l bs h = rw (le-leb (length bs) (length l) h)

module _ (body buffer set : List ℕ) (long : length buffer ≡ longest_set) (left : set ≡ output_of buffer (taken_in (previous body))) where
  refused-told : (r : Refusal) → taken_in (previous body) ≡ refused r → answer_of buffer (taken_in (previous body)) ≡ Err (Refused r)
  refused-told r e = ap (answer_of buffer) e ∙ sym (output-refused buffer r).0

  has_room : (s : List Entry) → lent_set (body_bytes s) ≡ form s → length (body_bytes s) ≤ length buffer
  has_room s lent = omega (arith, lent-short (body_bytes s) s lent)

  wrote-told : (s : List Entry) → taken_in (previous body) ≡ bytes (body_bytes s) → lent_set (body_bytes s) ≡ form s
      → answer_of buffer (taken_in (previous body)) ≡ Ok (length (body_bytes s))
  wrote-told s e lent = ap (answer_of buffer) e ∙ answer-fits buffer (body_bytes s) (has_room s lent)

  pub taken_refused : (e : WriteError) → Err e ≡ answer_of buffer (taken_in (previous body))
      → refused_text (error_number e) ≡ taken_text (taken_in (previous body))
  taken_refused e told =
      taken-cases body
      (λ r is.
      let same : ◌≡◌ {A = Result ℕ WriteError} (Err e) (Err (Refused r)) = told ∙ refused-told r is in
      let why : e ≡ Refused r = cc in
      ap (λ (x : WriteError). refused_text (error_number x)) why ∙ sym (ap taken_text is))
      (λ s is lent. absurd (ok-err (sym (told ∙ wrote-told s is lent))))

  pub taken-set : (len : ℕ) → Ok len ≡ answer_of buffer (taken_in (previous body)) → TakenSet body set len
  taken-set len told =
      taken-cases body (λ r is. absurd (ok-err (told ∙ refused-told r is)))
      (λ s is lent.
      let same : ◌≡◌ {A = Result ℕ WriteError} (Ok len) (Ok (length (body_bytes s))) = told ∙ wrote-told s is lent in
      let size : len ≡ length (body_bytes s) = cc in
      let whole : set ≡ body_bytes s ++ drop (length (body_bytes s)) buffer =
      left ∙ ap (output_of buffer) is ∙ output-there buffer (body_bytes s) (has_room s lent) in
      record {
        entries = s;
        is = is;
        lent = lent;
        inside = rw (size, whole, length-append) (omega arith);
        front = ap (λ n. take n set) size ∙ ap (take (length (body_bytes s))) whole ∙ take-append_seam (body_bytes s) (drop (length (body_bytes s)) buffer);
      })
