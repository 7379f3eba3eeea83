-- Laws of calls.
mod Calls
