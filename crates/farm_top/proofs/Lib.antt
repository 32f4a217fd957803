-- Lemmas on the top function.
mod Asking
mod Carrying
mod Drilling
mod Ending
mod FarmCausing
mod FarmCleaning
mod Living
mod Headlining
mod Promising
mod ResumeCausing
mod ResumeCutting
mod ResumeReading
mod Resuming
mod Taking
mod TakingSave
mod ToldRuns
mod TwoParts
