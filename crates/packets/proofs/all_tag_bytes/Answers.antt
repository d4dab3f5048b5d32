-- `packets::all_tag_bytes` meets its contract.
use Rattle.std.proofs.Common.{◌∙◌, rules, tests}
use Rattle.std.proofs.lemmas.Iterator.{YieldsList-from_slice}
use Rattle.std.proofs.lemmas.Iterator.Search.{all_from_yields_List}
use Rattle.packets.specs.Tag.{is_tag_byte}
use Rattle.packets.proofs.TagLaws.{all-are-tag-bytes}
use Rattle.packets.proofs.all_tag_bytes.Goals as goal

pub returns : goal.returns
returns c = let s = c.args.tag.now in
    all_from_yields_List is_tag_byte _ _ _ c.all.ensures.ran (YieldsList-from_slice s cc) (λ x b q k. search (rules, tests)) ∙ all-are-tag-bytes s
