pub mod FormRanks
