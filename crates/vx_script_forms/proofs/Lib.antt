pub mod ValueForms
pub mod Forms
