pub mod LinearForms
