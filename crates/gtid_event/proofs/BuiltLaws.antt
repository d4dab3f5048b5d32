-- Records are built as `specs/Parts.antt` says.
use Prim.Native.Nat.{ℕ}
use mathlib.Core.Path.{◌≡◌, refl, ap}
use mathlib.Core.Bool.{true}
use mathlib.Core.List.{List, []}
use lib.ListN.{get_or, drop, set}
use Rattle.packets.specs.Kept.{padded}
use Rattle.packets.specs.Tag.{is_tag}
use Rattle.gtid_event.specs.Event.{undefined_version, fresh, new_untagged, new_tagged, with_tag, set_number, set_tag}
use Rattle.gtid_event.specs.Parts.{parts, only, tag_part, new_parts, Gives, IsNumber, Built}
use Rattle.gtid_event.specs.declared.GtidEvent.{GtidEvent}

-- two records with the same fields are the same
pub same-event : (a b : GtidEvent) → a.flags ≡ b.flags → a.sid ≡ b.sid → a.gno ≡ b.gno → a.tag ≡ b.tag → a.tag_len ≡ b.tag_len
    → a.lc_typecode ≡ b.lc_typecode → a.last_committed ≡ b.last_committed → a.sequence_number ≡ b.sequence_number
    → a.immediate_commit_timestamp ≡ b.immediate_commit_timestamp → a.original_commit_timestamp ≡ b.original_commit_timestamp
    → a.tx_length ≡ b.tx_length → a.immediate_server_version ≡ b.immediate_server_version
    → a.original_server_version ≡ b.original_server_version → a.commit_group_ticket ≡ b.commit_group_ticket → a ≡ b
same-event a b flags sid gno tag tag_len typecode last sequence immediate original len version original_version ticket =
    λ i.
    record {
      flags = flags i;
      sid = sid i;
      gno = gno i;
      tag = tag i;
      tag_len = tag_len i;
      lc_typecode = typecode i;
      last_committed = last i;
      sequence_number = sequence i;
      immediate_commit_timestamp = immediate i;
      original_commit_timestamp = original i;
      tx_length = len i;
      immediate_server_version = version i;
      original_server_version = original_version i;
      commit_group_ticket = ticket i;
    }

-- the number that a part is
abbrev number_in : ℕ → List (List ℕ) → ℕ
number_in id ps = get_or (get_or ps id []) 0 0

whole : (a b : GtidEvent) → parts a ≡ parts b → a ≡ b
whole a b h =
    let number : (id : ℕ) → number_in id (parts a) ≡ number_in id (parts b) = λ id. ap (number_in id) h in
    same-event a b (number 0) (ap (λ ps. get_or ps 1 []) h) (number 2) (ap (λ ps. drop 1 (get_or ps 3 [])) h) (number 3) (number 12)
    (number 4) (number 5) (number 6) (number 7) (number 8) (number 9) (number 10) (number 11)

new : (sid : List ℕ) (gno : ℕ) → parts (new_untagged sid gno) ≡ new_parts sid [] gno 2
unfolding padded
new sid gno = refl

with_number : {id : ℕ} → IsNumber id → (v : ℕ) (e : GtidEvent) → parts (set_number id v e) ≡ set (parts e) id (only v)
with_number IsNumber.flags v e = refl
with_number IsNumber.gno v e = refl
with_number IsNumber.last_committed v e = refl
with_number IsNumber.sequence_number v e = refl
with_number IsNumber.immediate_commit_timestamp v e = refl
with_number IsNumber.original_commit_timestamp v e = refl
with_number IsNumber.tx_length v e = refl
with_number IsNumber.immediate_server_version v e = refl
with_number IsNumber.original_server_version v e = refl
with_number IsNumber.commit_group_ticket v e = refl

with_tag_lem : (tag : List ℕ) (e : GtidEvent) → is_tag tag ≡ true → Gives (with_tag tag e) (set (parts e) 3 (tag_part tag))
unfolding with_tag
with_tag_lem tag e is = (set_tag tag e, rw is, refl)

new_tagged_lem : (sid tag : List ℕ) (gno : ℕ) → is_tag tag ≡ true → Gives (new_tagged sid tag gno) (new_parts sid tag gno 0)
unfolding new_tagged
new_tagged_lem sid tag gno is = with_tag_lem tag (fresh sid gno 0 undefined_version) is

pub built : Built
built = record {
  whole = whole;
  new = new;
  new_tagged = new_tagged_lem;
  with_number = with_number;
  with_sid = λ sid e. refl;
  with_tag = with_tag_lem;
  with_typecode = λ typecode e. refl;
}
