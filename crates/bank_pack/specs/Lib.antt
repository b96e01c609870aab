pub mod BankGrowth
pub mod BankLaws
pub mod BankRepr
pub mod BankRows
pub mod Banks
pub mod Examples
pub mod PlanRepr
