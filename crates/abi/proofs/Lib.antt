-- Laws that the functions of this crate cite, that a record comes back from its bytes (`FlatBack`), and those of a report
-- (`FlatReportLaws`, `FlatReportBack`) and of a binlog reader (`FlatBinlogLaws`, `FlatBinlogBack`) as bytes.
pub mod EntryLaws
pub mod FlatLaws
pub mod FlatBack
pub mod FlatReportLaws
pub mod FlatReportBack
pub mod FlatBinlogLaws
pub mod FlatBinlogBack
