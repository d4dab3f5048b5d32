-- What `misc` promises is said by these definitions: the refusals, the language of reading and that of writing, and on them the
-- integers of the wire: little-endian (`Le`), variable-length (`Varlen`, `Signed`) and length-encoded (`Lenenc`).
-- Which bytes are a form of a number is said without a reader (`Forms`).
-- A reader answers `read_of` of its definition; a writer leaves `output_of` and answers `answer_of` of its bytes.
pub mod Pick
pub mod Refusal
pub mod Parse
pub mod Body
pub mod Output
pub mod Le
pub mod Varlen
pub mod Signed
pub mod Lenenc
pub mod Forms
pub mod Mark
pub mod Put
