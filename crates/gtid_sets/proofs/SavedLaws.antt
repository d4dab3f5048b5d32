-- Saved bytes after an event: those of the set after it.
use Prim.Native.Nat.{ℕ, ◌+◌}
use mathlib.Core.Path.{◌≡◌, sym, ap, ◌∙◌}
use mathlib.Core.Bool.{false}
use mathlib.Core.List.{List}
use Rattle.misc.specs.declared.refusal.Refusal.{Refusal}
use Rattle.previous_gtids_event.specs.Entry.{Entry}
use Rattle.previous_gtids_event.specs.Rewrite.{body_bytes}
use Rattle.gtid_sets.specs.Run.{Event, anonymous, broken, names, refused, answer, is_taken, after}
use Rattle.gtid_sets.specs.Lent.{form, lent_set, GoodKeys}
use Rattle.gtid_sets.specs.Saved.{saved_after, GoodEvent}
use Rattle.gtid_sets.proofs.RunLaws.{answer-cases, after-unless-taken}
use Rattle.gtid_sets.proofs.LentLaws.{lent_is, good-join}

pub good-after : (s : List Entry) (e : Event) → GoodEvent e → GoodKeys s → GoodKeys (after s e)
good-after s anonymous g h = h
good-after s (broken r) g h = h
good-after s (names k n) g h =
    answer-cases s k n (λ c e. rw e h) (λ c d e. rw e h) (λ c d l e. rw e (good-join k n (n + 1) s g h)) (λ r f c d l e. rw e h)

-- ---- one event

module _ (bs : List ℕ) (s : List Entry) (e : Event) (lent : lent_set bs ≡ form s) where
  pub saved_after_lem : saved_after bs e ≡ body_bytes (after s e)
  saved_after_lem = rw lent

  -- only "taken" changes the bytes
  pub saved-unless-taken : is_taken (answer s e) ≡ false → saved_after bs e ≡ bs
  saved-unless-taken h = saved_after_lem ∙ ap body_bytes (after-unless-taken s e h) ∙ sym (lent_is bs s lent).written

  -- so a refusal changes none
  pub saved-refused : (r : Refusal) → answer s e ≡ refused r → saved_after bs e ≡ bs
  saved-refused r h = saved-unless-taken (ap is_taken h)
