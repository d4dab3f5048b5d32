-- How a lent set grows by an interval, run by run.
use Rattle.std.specs.Prelude.{ℕ, ◌+◌, ◌-◌, ◌*◌, ◌^◌, ◌≤◌, ◌<◌, ◌≡◌, Bool, true, false, List, ◌++◌, length, drop}
use Rattle.previous_gtids_event.specs.Rewrite.{head_run, any_tag, header_bytes, body_bytes}
use Rattle.gtid_sets.specs.Set.{has, join}
use Rattle.gtid_sets.specs.Limits.{intervals, over, crowds}
use Rattle.set_intervals.specs.Intervals.{intervals_in, first_holds, spliced_run}
use Rattle.set_check.specs.SetOf.{set_of}
use Rattle.set_join.specs.Find.{own}
use Rattle.set_join.specs.Put.{entries_run, EntriesThere}
use Rattle.set_join.specs.declared.Run.{Run}
use Rattle.set_join.specs.declared.Plan.{Plan}

-- so many, if they are wanted
abbrev pub extra : Bool → ℕ → ℕ
extra true n = n
extra false n = 0

-- the entries after the key's
abbrev pub back_run : List ℕ → Plan → Run
back_run bs r = record { from = r.found.own.to; to = length bs; count = r.entries - (1 + r.found.before.count) }

-- the runs of the set after it
abbrev pub plan_runs : List ℕ → List ℕ → List ℕ → Plan → List ℕ
plan_runs bs u t r =
    header_bytes r.tags r.entries ++ entries_run r.widen bs r.found.before
    ++ head_run u r.tags t r.held
    ++ spliced_run (own bs r.found) r.splice
    ++ entries_run r.widen bs (back_run bs r)

-- the runs lie inside, and the counts are small
pub record Runs (bs : List ℕ) (r : Plan) : Type 0 where
  pub before_there : EntriesThere r.widen bs r.found.before
  pub after_there : EntriesThere r.widen bs (back_run bs r)
  pub own_there : (r.found.own.from ≤ r.found.own.to) × (r.found.own.to ≤ length bs)
  pub splice_inside : 16 * (r.splice.before + r.splice.taken) ≤ length (own bs r.found)
  pub index_below : 1 + r.found.before.count ≤ r.entries
  pub few : r.entries < 2 ^ 48

pub record PlanIs (bs : List ℕ) (u t : List ℕ) (a b : ℕ) (r : Plan) : Type 0 where
  pub runs : Runs bs r
  pub bytes : body_bytes (join (u ++ t) a b (set_of bs)) ≡ plan_runs bs u t r
  pub len_is : r.len ≡ length (body_bytes (join (u ++ t) a b (set_of bs)))
  pub tags_is : r.tags ≡ any_tag (join (u ++ t) a b (set_of bs))
  pub entries_is : r.entries ≡ length (join (u ++ t) a b (set_of bs))
  pub intervals_is : r.intervals ≡ intervals (join (u ++ t) a b (set_of bs))
  pub others : ℕ
  pub crowd_was : crowds (set_of bs) ≡ others + over r.found.own.count
  pub crowd_is : crowds (join (u ++ t) a b (set_of bs)) ≡ others + over r.held
  pub member : has (set_of bs) (u ++ t) a ≡ first_holds a (drop r.splice.before (intervals_in (own bs r.found)))
