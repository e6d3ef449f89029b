pub mod BatchForms
