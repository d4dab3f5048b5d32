-- Laws of reports.
pub mod WideLaws
pub mod IdLaws
pub mod LineLaws
pub mod SumLaws
pub mod TextLaws
pub mod BuiltLaws
