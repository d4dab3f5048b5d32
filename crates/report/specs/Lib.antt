-- What `report` promises is said by these definitions: lines, how a report is built of them, and their sums (`Report`), and the text (`Text`).
-- `Built` has the reports over sets that are given one after another.
pub mod Report
pub mod Built
pub mod Text
