-- Every row of the table comes out as the rules say, by computation.
use mathlib.Core.Path.{refl}
use Rattle.misc.specs.Parse.{many, bytes_at, byte_at}
use Rattle.misc.specs.Body.{body_limit}
use Rattle.misc.specs.Le.{le_of, le_bytes, le_at, number_at}
use Rattle.misc.specs.Lenenc.{lenenc_bytes}
use Rattle.misc.specs.Varlen.{trailing_ones, item_value, varlen_at, size_from, varlen_size, item_of, varlen_bytes}
use Rattle.misc.specs.Signed.{sent_as, meant_by, signed_at, natural_at}
use Rattle.packets.specs.Kept.{padded}
use Rattle.packets.specs.Tag.{all_tag_bytes, is_tag}
use Rattle.previous_gtids_event.specs.Rewrite.{header_bytes}
use Rattle.gtid_event_read.specs.Seen.{bits_of}
use Rattle.gtid_event_read.specs.Fields.{limited_at, uuid_at, tag_at, field_at, fields_from}
use Rattle.gtid_event_read.specs.Untagged.{opening_at, untagged}
use Rattle.gtid_event_read.specs.Tagged.{tagged}
use Rattle.gtid_event_read.specs.Read.{seen}
use Rattle.gtid_event_write.specs.Size.{size_with, payload_size, size_in64}
use Rattle.gtid_event_write.specs.Layout.{items_bytes, identity_bytes, clock_bytes, rest_bytes, field_bytes, tagged_bytes, opening_bytes, later_bytes, untagged_bytes}
use Rattle.gtid_event_write.specs.Write.{event_bytes}
use Rattle.text.specs.Digits.{decimal_in, decimal}
use Rattle.text.specs.Lines.{refused_text}
use Rattle.report.specs.Report.{high_word, low_word}
use Rattle.report.specs.Text.{counts_text, line_text, lines_text, report_text}
use Rattle.abi.specs.Flat.{flat_identity, flat_clock, flat_rest, flat, four_at, flat_read}
use Rattle.promises.specs.Edges.{edges, Agree}

pub edges-agree : Agree edges
unfolding many bytes_at byte_at body_limit meant_by signed_at natural_at bits_of limited_at uuid_at tag_at field_at fields_from opening_at untagged tagged seen le_of
    le_bytes le_at lenenc_bytes trailing_ones item_value varlen_at size_from varlen_size item_of varlen_bytes sent_as padded all_tag_bytes is_tag header_bytes size_with
    payload_size size_in64 items_bytes identity_bytes clock_bytes rest_bytes field_bytes tagged_bytes opening_bytes later_bytes untagged_bytes event_bytes number_at
    flat_identity flat_clock flat_rest flat four_at flat_read report_text lines_text line_text counts_text refused_text decimal decimal_in high_word low_word
edges-agree = refl
