pub mod AgreeLaws
