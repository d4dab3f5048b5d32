-- `gtid_report::text_of` meets its contract: the text has room.
use Rattle.gtid_report.proofs.ProgramLaws.{text-written, text-whole}
use Rattle.gtid_report.proofs.text_of.Goals as goal

pub unwrap-requires : goal.unwrap-requires
unwrap-requires c = text-written c.args.report c.args.text.now _ _ c.requires.built c.requires.longest_report_in_bounds c.write.ensures.value
    c.write.ensures.out_after

pub returns : goal.returns
returns c = text-whole c.args.report c.args.text.now _ _ c.requires.built c.requires.longest_report_in_bounds c.write.ensures.value
    c.write.ensures.out_after c.unwrap.ensures
