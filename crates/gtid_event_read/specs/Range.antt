-- What holds of the numbers of the fields, whatever bytes were read.
use Rattle.std.specs.Prelude.{List, ℕ, ◌-◌, ◌^◌, ◌≤◌, get_or}
use Rattle.gtid_event_read.specs.Fields.{Kind, any_number, up_to, natural, uuid, tag, unknown, kind_of}

-- the greatest number that a field can have
abbrev pub limit_of : Kind → ℕ
limit_of any_number = 2 ^ 64 - 1
limit_of (up_to limit) = limit
limit_of natural = 2 ^ 63 - 1
limit_of uuid = 0
limit_of tag = 0
limit_of unknown = 0

pub record InRange (numbers : List ℕ) : Type 0 where
  pub limited : (id : ℕ) → get_or numbers id 0 ≤ limit_of (kind_of id)
