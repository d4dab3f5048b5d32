-- The line of an entry, and those of the entries from a cursor on.
use Prim.Native.Nat.{ℕ, ◌+◌, ◌*◌, ◌≤◌, ◌<◌}
use mathlib.Core.Path.{◌≡◌, ap, ◌∙◌}
use mathlib.Core.List.{List, [], ◌∷◌, ◌++◌}
use native.Mathlib.Omega.{arith}
use lib.ListN.{length, length-append}
use Rattle.packets.proofs.KeptLaws.{kept_whole}
use Rattle.misc.specs.Parse.{part}
use Rattle.misc.specs.Put.{PutsWhereFits}
use Rattle.misc.specs.declared.put.Put.{Put}
use Rattle.misc.proofs.ParseLaws.{part_length}
use Rattle.misc.proofs.PutLaws.{◌and◌}
use Rattle.packets.specs.Kept.{kept}
use Rattle.previous_gtids_event.proofs.Reading.{uuid-of, tag-of}
use Rattle.set_check.specs.Places.{place_in}
use Rattle.set_check.specs.Cursor.{beyond_of, entries_left, CursorIs}
use Rattle.set_check.specs.declared.Cursor.{Cursor}
use Rattle.set_check.specs.declared.EntryPlace.{EntryPlace}
use Rattle.set_check.proofs.CursorLaws.{ahead, none_ahead}
use Rattle.text.specs.Keys.{key_text}
use Rattle.text.specs.Lines.{newline}
use Rattle.text.proofs.KeyTextLaws.{key-long}
use Rattle.listing.specs.SetText.{intervals_text, entry_text, entries_text}
use Rattle.listing.specs.Inside.{EntryThere, tag_in, intervals_there, entry_in, line_length}

-- ---- one entry

module _ (set : List ℕ) (at : ℕ) (e : EntryPlace) (there : at + 16 ≤ length set) where
  abbrev uuid : List ℕ
  uuid = part set at 16

  whole : length uuid ≡ 16
  whole = part_length 16 set at there

  -- a uuid has no zeros after it in its field
  pub uuid-kept : kept 16 uuid ≡ uuid
  uuid-kept = kept_whole 16 uuid whole

  entry-text : entry_text (entry_in set at e) ≡ key_text uuid (tag_in set e) ++ intervals_text (intervals_there set e) ++ (newline ∷ [])
  unfolding entry_text
  entry-text = rw (uuid-of uuid (tag_in set e) whole, tag-of uuid (tag_in set e) whole)

  pub entry_length : length (entry_text (entry_in set at e)) ≡ line_length set e
  entry_length =
      let key = key-long uuid (tag_in set e) whole in
      rw entry-text (simp length-append (omega arith))

  pub entry-put : {p q r s : Put} → PutsWhereFits p (key_text uuid (tag_in set e)) q
      → PutsWhereFits q (intervals_text (intervals_there set e)) r → PutsWhereFits r (newline ∷ []) s
      → PutsWhereFits p (entry_text (entry_in set at e)) s
  entry-put f g h = rw entry-text (f and g and h)

-- ---- the entries from a cursor on

pub none-text : (set : List ℕ) (c : Cursor) → c.left ≡ 0 → entries_text (entries_left set c) ≡ []
unfolding entries_text
none-text set c h = ap entries_text (none_ahead set c h)

module _ (set : List ℕ) (c : Cursor) (e : EntryPlace) (is : CursorIs set c) (some : 0 < c.left) (told : e ≡ place_in c.tagged set c.at) where
  pub next-there : (c.at + 16 ≤ length set) × EntryThere set e
  next-there =
      let a = ahead set c e is some told in (
        a.uuid_inside,
        record { small = is.small; tag = a.tag_inside; short = a.short; inside = omega (arith, a.next-is, a.inside) },
      )

  module _ (next : Cursor) (after : next ≡ beyond_of c e) where
    pub next-cursor : CursorIs set next
    next-cursor = rw after (ahead set c e is some told).next

    pub next-text : entries_text (entries_left set c) ≡ entry_text (entry_in set c.at e) ++ entries_text (entries_left set next)
    unfolding entries_text
    next-text = rw after (ap entries_text (ahead set c e is some told).is)

-- ---- how long their lines are

-- those of some are counted already: with what is left it is all, and they take up at most three times as much as the entries
pub record Counting (set : List ℕ) (from rest : Cursor) (len : ℕ) : Type 0 where
  pub is : CursorIs set rest
  pub to-do : length (entries_text (entries_left set from)) ≡ len + length (entries_text (entries_left set rest))
  pub most : len + 3 * from.at ≤ 3 * rest.at

pub counting-none : (set : List ℕ) (from : Cursor) → CursorIs set from → Counting set from from 0
counting-none set from is = record { is = is; to-do = omega arith; most = omega arith }

module _ (set : List ℕ) (from rest : Cursor) (len : ℕ) (g : Counting set from rest len) where
  pub counting-all : rest.left ≡ 0 → (len ≡ length (entries_text (entries_left set from))) × (len ≤ 3 * length set)
  counting-all h = (omega (arith, g.to-do, ap length (none-text set rest h)), omega (arith, g.most, g.is.inside))

  module _ (e : EntryPlace) (some : 0 < rest.left) (told : e ≡ place_in rest.tagged set rest.at) (n : ℕ) (size : n ≡ line_length set e)
      (short : n ≤ 70 + 42 * e.count) where
    pub counting-short : len + n ≤ 3 * length set
    counting-short = let a = ahead set rest e g.is some told in omega (arith, g.most, a.grows, a.inside)

    pub counting-turn : (next : Cursor) → next ≡ beyond_of rest e → Counting set from next (len + n)
    counting-turn next after =
        let a = ahead set rest e g.is some told in
        let line = entry_length set rest.at e a.uuid_inside in
        let text = ap length (next-text set rest e g.is some told next after) ∙ length-append (entry_text (entry_in set rest.at e)) _ in
        let place = ap (λ (x : Cursor). x.at) after in
        record {
          is = next-cursor set rest e g.is some told next after;
          to-do = omega (arith, g.to-do, line, text);
          most = omega (arith, g.most, a.grows, place);
        }
