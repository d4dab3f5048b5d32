-- That none of them meets the demands: readers, writers and offers (`ShutOut`), offers at the limits of an entry (`Crowding`), what was not sent
-- (`Absent`), two sets, two heads, reports and files.
pub mod ShutOut
pub mod Crowding
pub mod Absent
pub mod TwoShut
pub mod HeadsShut
pub mod ReportsShut
pub mod FilesShut
