pub mod BankState
