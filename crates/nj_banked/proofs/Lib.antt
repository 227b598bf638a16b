mod Fits
mod Kept
mod AfterCalls
mod Shown
