pub mod PassedText
