mod Parts
mod Assigned
mod NestLaws
mod StatementForms
mod NoLoops
