mod FittingMarks
mod FittingValues
