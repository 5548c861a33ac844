mod Cells
mod Executed
mod InPlace
mod NextSteps
mod Shown
mod Stacks
mod Standings
