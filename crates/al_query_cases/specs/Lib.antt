pub mod DueCases
