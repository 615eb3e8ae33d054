mod Forms
pub mod Inside
