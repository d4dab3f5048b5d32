-- Wrong programs, by what they are put in the place of: readers, writers, offers, calls over two sets, reports, readers of files.
pub mod WrongOnes
