mod Tailers
