-- The program's rooms are enough.
mod ProgramLaws
