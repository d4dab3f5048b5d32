-- The entry at a place of a body (`entry_in`), from the answer for the body's header.
use mathlib.Core.Path.{◌≡◌, sym, ap, ◌∙◌}
use mathlib.Core.List.{List}
use Prim.Native.Nat.{ℕ, ◌≤◌}
use lib.ListN.{length}
use Rattle.std.specs.Prelude.{Ok, Err}
use Rattle.misc.specs.Refusal.{too_long}
use Rattle.misc.specs.declared.refusal.Refusal.{Refusal}
use Rattle.misc.specs.Parse.{Parse, refuse, parsed, and_then}
use Rattle.misc.specs.Body.{of_body}
use Rattle.misc.specs.Le.{le_at}
use Rattle.misc.proofs.ParseLaws.{split, answered-ok, answered-err}
use Rattle.misc.proofs.BodyLaws.{body-fits, body-too-long}
use Rattle.previous_gtids_event.specs.Entry.{Entry}
use Rattle.previous_gtids_event.specs.Previous.{says_tagged, entry_at}
use Rattle.previous_gtids_event.specs.Answers.{header_read, entry_read}
use Rattle.previous_gtids_event.specs.declared.HeaderRead.{HeaderRead}
use Rattle.abi.specs.Answers.{entry_in}

module _ (s : List ℕ) (at : ℕ) where
  -- what stands behind the header
  there : ℕ → ℕ → Parse Entry
  there header next = entry_at (says_tagged header) s at

  in_body : length s ≤ 65536 → entry_in s at ≡ and_then (le_at 8 s 0) there
  unfolding entry_in there
  in_body h = body-fits s (and_then (le_at 8 s 0) there) h

  pub entry-headless : {r : Refusal} → Err r ≡ header_read (of_body s (le_at 8 s 0)) → Err r ≡ entry_read (entry_in s at)
  unfolding entry_in there
  entry-headless {r} told =
      let is = answered-err _ (of_body s (le_at 8 s 0)) told in
      split (length s) 65536
      (λ fits.
      let header : le_at 8 s 0 ≡ refuse r = sym (body-fits s (le_at 8 s 0) fits) ∙ is in
      sym (ap entry_read (in_body fits ∙ ap (λ (p : Parse ℕ). and_then p there) header)))
      (λ long.
      let same : ◌≡◌ {A = Parse ℕ} (refuse r) (refuse too_long) = sym is ∙ body-too-long s (le_at 8 s 0) long in
      let why : r ≡ too_long = cc in
      rw why (sym (ap entry_read (body-too-long s (and_then (le_at 8 s 0) there) long))))

  pub entry-by-header : {h : HeaderRead} → Ok h ≡ header_read (of_body s (le_at 8 s 0)) → of_body s (entry_at h.tagged s at) ≡ entry_in s at
  unfolding entry_in there
  entry-by-header {h} told =
      let (n, next, is, same) = answered-ok _ (of_body s (le_at 8 s 0)) told in
      let says : h.tagged ≡ says_tagged n = ap (λ (y : HeaderRead). y.tagged) same in
      split (length s) 65536
      (λ fits.
      let header : le_at 8 s 0 ≡ parsed n next = sym (body-fits s (le_at 8 s 0) fits) ∙ is in
      body-fits s (entry_at h.tagged s at) fits
      ∙ rw says (sym (in_body fits ∙ ap (λ (p : Parse ℕ). and_then p there) header)))
      (λ long. body-too-long s (entry_at h.tagged s at) long ∙ sym (body-too-long s (and_then (le_at 8 s 0) there) long))
