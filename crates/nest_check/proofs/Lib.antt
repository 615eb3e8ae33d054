mod Arguments
mod Constants
mod Gathered
mod NestSteps
mod PathSteps
mod StatementForms
mod States
