pub mod DoesLaws
pub mod SettleLaws
